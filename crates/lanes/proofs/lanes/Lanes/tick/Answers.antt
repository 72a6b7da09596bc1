use Rattle.std.proofs.Common.{sym, ap, ◌∙◌, set, arith}
use Rattle.std.proofs.lemmas.Grind.{common_steps}
use Rattle.std.proofs.lemmas.List.Edits.{map_over_more}
use Rattle.lanes.specs.Seen.{at_time}
use Rattle.lanes.proofs.Seeing.{expired}
use Rattle.lanes.proofs.lanes.Lanes.tick.Goals as goal

pub loop-lane-preserved : goal.loop-lane-preserved
loop-lane-preserved c =
    let i = c.loop-lane.invariant in
    let f = at_time c.args.time in
    record {
      eight = i.eight;
      written = ap (set c.loop-lane.lane-items c.loop-lane.lane-index) (c.at_time.ensures ∙ ap f (sym c.lane-item.is)) ∙ map_over_more f _ _ _ _ (omega arith) i.written c.lane-item.is;
    }

pub returns-clause-leaves : goal.returns-clause-leaves
returns-clause-leaves c = grind (arith, common_steps, expired)
