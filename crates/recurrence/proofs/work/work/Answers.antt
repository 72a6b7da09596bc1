use Rattle.std.proofs.Common.{◌≡◌, sym, subst}
use Rattle.arithmetic.specs.Estimates.{shortfall}
use Rattle.number_form.specs.Forms.{FormModel, LawfulForm}
use Rattle.selection.specs.declared.operand.Operand.{Operand}
use Rattle.selection.specs.Operands.{Sized, InRange}
use Rattle.selection.specs.Selectors.{SelectorModel, LawfulSelector}
use Rattle.recurrence.specs.declared.registers.Outcome.{Outcome}
use Rattle.recurrence.specs.Recurrence.{worked}
use Rattle.recurrence.specs.Root.{ReciprocalRoot, Exactness}
use Rattle.recurrence.proofs.Finishing.{worked_root, worked_exactness, kept_above, root_unique}
use Rattle.recurrence.proofs.work.work.Goals as goal

-- an operand's type says its size and its range
sized : (o : Operand) → Sized o.k o.q
sized o = record { width = o.width; places = o.places; even = o.even }

in_range : (o : Operand) → InRange o.k o.x
in_range o = record { quarter = o.range.0; below_one = o.range.1 }

module _ (S : SelectorModel) (F : FormModel) (LS : LawfulSelector shortfall S) (LF : LawfulForm shortfall F) (o : Operand) (r : Outcome) (e : r ≡ worked S F o.k o.q o.x) where
  root : ReciprocalRoot o.k o.q o.x r.f
  root = subst (λ (z : Outcome). ReciprocalRoot o.k o.q o.x z.f) (sym e) (worked_root S F LS LF o.k o.q o.x (sized o) (in_range o))

  exactness : Exactness o.k o.q o.x r.f r.exact
  exactness = subst (λ (z : Outcome). Exactness o.k o.q o.x z.f z.exact) (sym e) (worked_exactness S F LS LF o.k o.q o.x (sized o) (in_range o))

pub returns : goal.returns
returns g c =
    let S = g.S.Selector.model c.args.make.now.selector.now in
    let F = g.F.NumberForm.model c.args.make.now.form.now in
    let o = c.args.operand in
    let r = c.make_all_turns.result in
    let e = c.make_all_turns.ensures in
    let LS = c.lawful.ensures in
    let LF = c.lawful-2.ensures in
    record {
      turns = e;
      root = root S F LS LF o r e;
      no_other = λ g t. root_unique o.k o.q o.x g r.f t (root S F LS LF o r e);
      exactness = exactness S F LS LF o r e;
      stages = kept_above S F LS LF o.k o.q o.x (sized o) (in_range o);
    }
