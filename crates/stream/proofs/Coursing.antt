-- A run midway: what is done, and what is to come.
use Rattle.std.proofs.Common.{◌≡◌, ℕ, zero, suc, ◌+◌, ◌-◌, ◌<◌, ◌≤◌, List, [], ◌∷◌, ◌++◌, length, Option, sym, refl, ap, ◌∙◌, subst, append_assoc, append-nil, arith, length-take}
use Rattle.control.specs.declared.control.Control.{Control}
use Rattle.protocol.specs.Operands.{Make}
use Rattle.protocol.specs.Bank.{Bank}
use Rattle.records.specs.declared.fault.Placed.{Placed}
use Rattle.stream.specs.declared.run.Report.{Report}
use Rattle.stream.specs.Answers.{bytes, Writes}
use Rattle.stream.specs.Entries.{Entry, numbers, written, bank_then, control_then}
use Rattle.stream.specs.Runs.{Next, next_turn, RunGoesOn, Ended, Course, before, onward, course, whole, Ran}
use Rattle.stream.proofs.Written.{wrote_then}
use Rattle.stream.proofs.Honest.{in_history}

abbrev prepend : List Entry → Course → Course
prepend es r = record { entries = es ++ r.entries; bank = r.bank; control = r.control; stop = r.stop }

-- The entries that are done are written, and what the rest comes to, put after them, is what the whole comes to.
pub record Midway (m : Make) (input out₀ : List ℕ) (b₀ : Bank) (c₀ : Control) (p at : ℕ) (out : List ℕ) (b : Bank) (c : Control) : Type 0 where
  pub done : List Entry
  pub left : ℕ
  pub enough : length input < p + left
  pub writes : Writes 0 out₀ at out (written done)
  pub rest : whole m input (length out₀) b₀ c₀ ≡ prepend done (course m input left p (length out - at) b c)

pub start : (m : Make) (input out₀ : List ℕ) (b₀ : Bank) (c₀ : Control) → Midway m input out₀ b₀ c₀ 0 0 out₀ b₀ c₀
start m input out₀ b₀ c₀ =
    record {
      done = [];
      left = suc (length input);
      enough = omega arith;
      writes = record { next_is = refl; written = refl; beyond = refl; room = refl };
      rest = ap (λ (free : ℕ). course m input (suc (length input)) 0 free b₀ c₀) whole_room;
    }
  where
    whole_room : length out₀ ≡ length out₀ - 0
    whole_room = omega arith

written_more : (es fs : List Entry) → written (es ++ fs) ≡ written es ++ written fs
written_more [] fs = refl
written_more (e ∷ es) fs = ap (λ (l : List ℕ). bytes (numbers e) ++ l) (written_more es fs) ∙ sym (append_assoc (bytes (numbers e)) (written es) (written fs))

-- what is written from the start on fits
inside : (n : ℕ) (out₀ out xs : List ℕ) → Writes 0 out₀ n out xs → n ≤ length out
inside n out₀ out xs w = omega (arith, w.next_is, ap length w.written, length-take n out)

module _ (m : Make) (input out₀ : List ℕ) (b₀ : Bank) (c₀ : Control) where
  -- at a place in the input there is at least one record to come
  unrolled : (k p free : ℕ) (b : Bank) (c : Control) → p ≤ length input → length input < p + k →
      (j : ℕ) × (k ≡ suc j) × (course m input k p free b c ≡ onward m free b c (next_turn m input p free b c) (course m input j))
  unrolled zero p free b c h l = absurd (omega arith)
  unrolled (suc k) p free b c h l = (k, refl, refl)

  pub again : (p q at : ℕ) (out : List ℕ) (next : ℕ) (out' : List ℕ) (b b' : Bank) (c c' : Control) → p ≤ length input → Midway m input out₀ b₀ c₀ p at out b c →
      RunGoesOn m input p q at out next out' b b' c c' → Midway m input out₀ b₀ c₀ q next out' b' c'
  again p q at out next out' b b' c c' h mid step =
      let e = step.done in
      let u = unrolled mid.left p (length out - at) b c h mid.enough in
      let free : length out - at - length (bytes (numbers e)) ≡ length out' - next = omega (arith, step.writes.next_is, step.writes.room) in
      let ahead = step.ahead in
      let enough = mid.enough in
      let one_less = u.1 in
      let both : Writes 0 out₀ next out' (written mid.done ++ bytes (numbers e)) = wrote_then 0 out₀ at out next out' (written mid.done) (bytes (numbers e)) mid.writes step.writes in
      let more : written (mid.done ++ e ∷ []) ≡ written mid.done ++ bytes (numbers e) =
      written_more mid.done (e ∷ []) ∙ ap (λ (l : List ℕ). written mid.done ++ l) (append-nil (bytes (numbers e))) in
      record {
        done = mid.done ++ e ∷ [];
        left = u.0;
        enough = omega arith;
        writes = subst (λ (l : List ℕ). Writes 0 out₀ next out' l) (sym more) both;
        rest =
            mid.rest ∙ ap (prepend mid.done) (u.2 ∙ ap (λ (n : Next). onward m (length out - at) b c n (course m input u.0)) step.is) ∙
            joined mid.done e (course m input u.0 q (length out - at - length (bytes (numbers e))) (bank_then m b e) (control_then c e)) ∙
            ap (λ (f : ℕ). prepend (mid.done ++ e ∷ []) (course m input u.0 q f (bank_then m b e) (control_then c e))) free ∙
            ap (λ (x : Bank). prepend (mid.done ++ e ∷ []) (course m input u.0 q (length out' - next) x (control_then c e))) (sym step.bank_is) ∙
            ap (λ (x : Control). prepend (mid.done ++ e ∷ []) (course m input u.0 q (length out' - next) b' x)) (sym step.control_is);
      }
    where
      joined : (es : List Entry) (e : Entry) (r : Course) → prepend es (before e r) ≡ prepend (es ++ e ∷ []) r
      joined es e r = ap (λ (l : List Entry). record { entries = l; bank = r.bank; control = r.control; stop = r.stop }) (sym (append_assoc es (e ∷ []) r.entries))

  pub over : (p at : ℕ) (out : List ℕ) (next : ℕ) (out' : List ℕ) (b b' : Bank) (c c' : Control) (stop : Option Placed) (r : Report) → p ≤ length input → r.written ≡ next → r.stop ≡ stop →
      Midway m input out₀ b₀ c₀ p at out b c → Ended m input p at out next out' b b' c c' stop → Ran m input out₀ out' b₀ b' c₀ c' r
  over p at out next out' b b' c c' stop r h count why mid step =
      let u = unrolled mid.left p (length out - at) b c h mid.enough in
      let all : whole m input (length out₀) b₀ c₀ ≡ record { entries = mid.done ++ step.last; bank = b; control = c; stop = stop } =
      mid.rest ∙ ap (prepend mid.done) (u.2 ∙ ap (λ (n : Next). onward m (length out - at) b c n (course m input u.0)) step.is) in
      let both : Writes 0 out₀ next out' (written mid.done ++ written step.last) = wrote_then 0 out₀ at out next out' (written mid.done) (written step.last) mid.writes step.writes in
      let bytes_are : written mid.done ++ written step.last ≡ written (whole m input (length out₀) b₀ c₀).entries =
      sym (written_more mid.done step.last) ∙ ap (λ (x : Course). written x.entries) (sym all) in
      let bank_is : b' ≡ (whole m input (length out₀) b₀ c₀).bank = step.bank_is ∙ ap (λ (x : Course). x.bank) (sym all) in
      let writes : Writes 0 out₀ r.written out' (written (whole m input (length out₀) b₀ c₀).entries) =
      subst (λ (n : ℕ). Writes 0 out₀ n out' (written (whole m input (length out₀) b₀ c₀).entries)) (sym count) (subst (λ (l : List ℕ). Writes 0 out₀ next out' l) bytes_are both) in
      record {
        writes = writes;
        fits = inside r.written out₀ out' (written (whole m input (length out₀) b₀ c₀).entries) writes;
        bank_is = bank_is;
        control_is = step.control_is ∙ ap (λ (x : Course). x.control) (sym all);
        stop_is = why ∙ ap (λ (x : Course). x.stop) (sym all);
        history = in_history m input (length out₀) b₀ b' c₀ bank_is;
      }
