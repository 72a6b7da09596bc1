use Rattle.std.proofs.Common.{◌≡◌, ℕ, sym, subst}
use Rattle.arithmetic.specs.Estimates.{shortfall}
use Rattle.number_form.specs.Forms.{FormModel, LawfulForm}
use Rattle.selection.specs.Selectors.{SelectorModel, LawfulSelector}
use Rattle.single.specs.declared.answer.Answer.{Answer}
use Rattle.single.specs.declared.mode.Mode.{Mode}
use Rattle.single.specs.Rsqrt.{Rsqrt}
use Rattle.single.specs.Readings.{reading, told}
use Rattle.single.proofs.Ties.{never_tied}
use Rattle.single.proofs.Determined.{rsqrt_once}
use Rattle.single.proofs.Correct.{told_right}
use Rattle.single.proofs.rsqrt.rsqrt.Goals as goal

right : (S : SelectorModel) (F : FormModel) → LawfulSelector shortfall S → LawfulForm shortfall F → (mode : Mode) (v : ℕ) (r : Answer) → r ≡ told S F mode (reading v) → Rsqrt mode v r.word r.marks
right S F LS LF mode v r e = subst (λ (a : Answer). Rsqrt mode v a.word a.marks) (sym e) (told_right S F LS LF mode v)

pub returns : goal.returns
returns g c =
    let S = g.S.Selector.model c.args.make.now.selector.now in
    let F = g.F.NumberForm.model c.args.make.now.form.now in
    let r = c.answer_by_digits.result in
    let it = right S F c.lawful.ensures c.lawful-2.ensures c.args.mode c.args.word r c.answer_by_digits.ensures in
    record {
      digits = c.answer_by_digits.ensures;
      right = it;
      no_other = λ w m other. rsqrt_once c.args.mode c.args.word w r.word m r.marks other it;
      no_ties = never_tied;
    }
