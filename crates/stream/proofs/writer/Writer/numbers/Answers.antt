use Rattle.std.proofs.Common.{◌∙◌, arith}
use Rattle.stream.proofs.Written.{wrote_more}
use Rattle.stream.proofs.writer.Writer.numbers.Goals as goal

pub loop-number-preserved : goal.loop-number-preserved
loop-number-preserved c =
    let i = c.loop-number.invariant in
    (c.number.ensures.same ∙ i.0, wrote_more _ _ _ _ _ _ c.args.numbers.now c.loop-number.number-index (omega (arith, c.loop-number-test.true)) i.1 c.number.ensures.writes)
