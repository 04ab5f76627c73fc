pub mod Cycle
pub mod Ledger
pub mod Reports
pub mod Careful
pub mod Trail
