-- The table is cleared, then has the places of its edges, then its counts.
use Rattle.lay.proofs.Wiring.{cleared, wires}
use Rattle.lay.proofs.wire.wire.Goals as goal

pub place_edges-placed-requires : goal.place_edges-placed-requires
place_edges-placed-requires c = cleared c.args.table.now c.fill.new.self c.fill-2.new.self (c.fill.ensures.after (λ y e. e)) (c.fill-2.ensures.after (λ y e. e)) c.told-table

pub returns : goal.returns
returns c =
    wires c.args.table.now c.fill.new.self c.fill-2.new.self _ _ _ _ _ (c.fill.ensures.after (λ y e. e)) (c.fill-2.ensures.after (λ y e. e)) c.told-table
    c.place_edges-placed.ensures c.nv-nv.ensures c.nu-nu.ensures
