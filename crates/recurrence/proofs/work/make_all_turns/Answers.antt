use Rattle.std.proofs.Common.{sym, ap, ◌∙◌, add-one}
use Rattle.recurrence.specs.Recurrence.{turned, turns}
use Rattle.recurrence.proofs.work.make_all_turns.Goals as goal

pub loop-preserved : goal.loop-preserved
loop-preserved g c =
    let S = g.S.Selector.model c.args.make.now.selector.now in
    let F = g.F.NumberForm.model c.args.make.now.form.now in
    c.turn.ensures.after ∙ ap (turned S F) c.loop.invariant ∙ ap (λ k. turns S F k c.new-running.result.registers) (sym (add-one c.loop.counter))
