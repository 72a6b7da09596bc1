use Rattle.std.proofs.Common.{arith}
use Rattle.recurrence.proofs.Starting.{operand_small}
use Rattle.recurrence.proofs.running.Running.new.Goals as goal

pub invariant_of-result : goal.invariant_of-result
invariant_of-result g c =
    let o = c.args.operand in
    let p = c.first-partial.ensures in
    record {
      width = o.width;
      places = (o.places.0, o.places.1, omega arith);
      factor = omega (arith, operand_small o.k o.x o.width.1 o.range.1);
      least = p.least;
      most = p.most;
      below = p.below;
    }
