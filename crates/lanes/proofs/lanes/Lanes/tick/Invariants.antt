use Rattle.std.proofs.Common.{◌≡◌, ◌++◌, map, length, take, drop}
use Rattle.lanes.specs.Seen.{at_time}
use Rattle.lanes.proofs.lanes.Lanes.tick.Given as goal

abbrev pub invariant-loop-lane : goal.invariant-loop-lane
invariant-loop-lane l =
    record {
      eight : length l.initial.lane-items ≡ 8;
      written : l.lane-items ≡ map (at_time l.time) (take l.lane-index l.initial.lane-items) ++ drop l.lane-index l.initial.lane-items;
    }
