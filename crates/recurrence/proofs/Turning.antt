-- A turn is what its parts make of the registers.
use Rattle.std.proofs.Common.{◌≡◌, ℕ, ◌+◌, ◌-◌, ◌*◌, ◌^◌, false, cond, ℤ, pos, Some, None, Option}
use Rattle.number_form.specs.declared.words.Words.{Words}
use Rattle.number_form.specs.Forms.{FormModel}
use Rattle.selection.specs.Selectors.{SelectorModel}
use Rattle.recurrence.specs.declared.registers.Registers.{Registers}
use Rattle.recurrence.specs.declared.registers.Partial.{Partial}
use Rattle.recurrence.specs.declared.registers.Choice.{Choice}
use Rattle.recurrence.specs.declared.registers.Terms.{Terms}
use Rattle.recurrence.specs.Recurrence.{chosen_from, chosen, terms, reduced_by, appended, complete, turned}

-- primed names are what the code passes on, a value by way of its bits
pub assembled :
    (S : SelectorModel) (F : FormModel) (c : Registers) {b r f : ℕ} {w res prod : Words} {h : Choice} {q t t' o' : ℤ} {y : Terms} {e : Partial} →
    q ≡ h.digit → t' ≡ t → o' ≡ y.once →
    b ≡ S.bits → r ≡ 2 ^ S.bits → f ≡ c.factor → w ≡ F.shift S.bits c.residual → h ≡ chosen_from S F (c.k + c.q) w c.product →
    t ≡ pos (f * 2 ^ (c.place - b)) → y ≡ terms q t' → res ≡ reduced_by F y c.product w →
    prod ≡ F.add o' c.product → e ≡ appended r q (c.place - b) c.partial →
    complete S c ≡ false →
    ◌≡◌ {A = Registers} (record { k = c.k; q = c.q; factor = c.factor; place = c.place - b; residual = res; product = prod; partial = e }) (turned S F c)
assembled S F c e1 e2 e3 e4 e5 e6 e7 e8 e9 e10 e11 e12 e13 more = rw more (cc)

pub chosen_if :
    (S : SelectorModel) (F : FormModel) (c : Registers) {w : Words} {h : Choice} →
    w ≡ F.shift S.bits c.residual → h ≡ chosen_from S F (c.k + c.q) w c.product → complete S c ≡ false →
    ◌≡◌ {A = Option Choice} (Some h) (cond (complete S c) None (Some (chosen S F c)))
chosen_if S F c e1 e2 more = rw more (cc)
