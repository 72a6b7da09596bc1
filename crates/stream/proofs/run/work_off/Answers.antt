use Rattle.std.proofs.Common.{length, refl, ap, arith, rules}
use Rattle.stream.proofs.Coursing.{over}
use Rattle.stream.proofs.run.work_off.Goals as goal

pub returns-in-Break-clause-ran : goal.returns-in-Break-clause-ran
returns-in-Break-clause-ran g c =
    let i = c.loop-stop.invariant in
    let step = rw (i.1, i.2.0, i.2.1) at c.in-Break.ensures.turned in
    let ran = over _ _ _ _ _ _ _ _ _ _ _ _ _ _ _ (record { written = c.used.result; stop = c.in-Break.stop }) (omega (arith, c.loop-stop.reader.inside, ap length i.1)) c.used.ensures refl i.3 step in
    search (rules, ran)
