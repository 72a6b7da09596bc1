-- A list of calls that is played as far as some place.
use Rattle.std.proofs.Common.{◌≡◌, ℕ, ◌+◌, ◌<◌, ◌≤◌, List, [], ◌∷◌, ◌++◌, map, length, get_or, take, drop, set, Some, Result, sym, refl, ap, ◌∙◌, subst, ap₂, arith}
use Rattle.std.proofs.lemmas.List.{take_more_set, drop_more, drop-set-lt, drop_all, take_all, append-nil, append_assoc}
use Rattle.protocol.specs.declared.refusal.Refusal.{Refusal}
use Rattle.protocol.specs.declared.call.Call.{Call}
use Rattle.protocol.specs.declared.call.Reply.{Reply}
use Rattle.protocol.specs.declared.call.Play.{Play}
use Rattle.protocol.specs.Operands.{Make}
use Rattle.protocol.specs.Bank.{Bank, answer, after}
use Rattle.protocol.specs.Promise.{bank_after, history}
use Rattle.protocol.specs.Plays.{played, replied, onto, calls_of, as_play, StandsInHistory}

-- the answers before place i, and what the calls from there on come to on the bank b, are what all come to on the bank at the start
pub record Midway (m : Make) (start : Bank) (before : List Play) (i : ℕ) (now : List Play) (b : Bank) : Type 0 where
  pub told : take i now ++ replied m b (drop i now) ≡ replied m start before
  pub leaves : played m b (drop i now) ≡ played m start before

abbrev pub answered : Make → Bank → Play → Play
answered m b p = record { call = p.call; reply = Some (answer m b p.call) }

pub further : (m : Make) (start : Bank) (before : List Play) (i : ℕ) (now : List Play) (b next : Bank) (p d : Play) → i < length now → get_or now i d ≡ p →
    next ≡ after m b p.call → Midway m start before i now b → Midway m start before (i + 1) (set now i (answered m b p)) next
further m start before i now b next p d h is e mid =
    let q = answered m b p in
    let rest : drop (i + 1) (set now i q) ≡ drop (i + 1) now = drop-set-lt (i + 1) now i q (omega arith) in
    let here : drop i now ≡ p ∷ drop (i + 1) now = drop_more now i d h ∙ ap (λ (x : Play). x ∷ drop (i + 1) now) is in
    let done : take (i + 1) (set now i q) ≡ take i now ++ q ∷ [] = take_more_set now i q h in
    record {
      told =
          ap₂ (λ (xs ys : List Play). xs ++ replied m next ys) done rest ∙ append_assoc (take i now) (q ∷ []) (replied m next (drop (i + 1) now)) ∙
          ap (λ (x : Bank). take i now ++ q ∷ replied m x (drop (i + 1) now)) e ∙ ap (λ (xs : List Play). take i now ++ replied m b xs) (sym here) ∙ mid.told;
      leaves = ap₂ (λ (x : Bank) (ys : List Play). played m x ys) e rest ∙ ap (played m b) (sym here) ∙ mid.leaves;
    }

pub over : (m : Make) (start : Bank) (before : List Play) (i : ℕ) (now : List Play) (b : Bank) → length now ≤ i → Midway m start before i now b →
    (now ≡ replied m start before) × (b ≡ played m start before)
over m start before i now b h mid =
    let none = drop_all i now h in
    let all = take_all i now h in
    (sym (append-nil now) ∙ ap₂ (λ (xs ys : List Play). xs ++ replied m b ys) (sym all) (sym none) ∙ mid.told, ap (played m b) (sym none) ∙ mid.leaves)

pub further_by : (m n : Make) → n ≡ m → (start : Bank) (before : List Play) (i : ℕ) (now : List Play) (b next : Bank) (d : Play) (r : Result Reply Refusal) → i < length now →
    r ≡ answer n b (get_or now i d).call → next ≡ after n b (get_or now i d).call → Midway m start before i now b →
    Midway m start before (i + 1) (set now i (record { call = (get_or now i d).call; reply = Some r })) next
further_by m n same start before i now b next d r h told leaves mid =
    let p = get_or now i d in
    let r_is : r ≡ answer m b p.call = told ∙ ap (λ (x : Make). answer x b p.call) same in
    let next_is : next ≡ after m b p.call = leaves ∙ ap (λ (x : Make). after x b p.call) same in
    subst (λ (x : Result Reply Refusal). Midway m start before (i + 1) (set now i (record { call = p.call; reply = Some x })) next) (sym r_is) (further m start before i now b next p d h refl next_is mid)

-- ---- the history

bank_onto : (m : Make) (ps : List Play) (past : List Call) → played m (bank_after m past) ps ≡ bank_after m (onto (calls_of ps) past)
bank_onto m [] past = refl
bank_onto m (p ∷ ps) past = bank_onto m ps (p.call ∷ past)

history_onto : (m : Make) (ps : List Play) (past : List Call) → map as_play (history m (onto (calls_of ps) past)) ≡ onto (replied m (bank_after m past) ps) (map as_play (history m past))
history_onto m [] past = refl
history_onto m (p ∷ ps) past = history_onto m ps (p.call ∷ past)

pub stands_in_history : (m : Make) (before : Bank) (ps qs : List Play) (now : Bank) → qs ≡ replied m before ps → now ≡ played m before ps → StandsInHistory m before ps qs now
stands_in_history m before ps qs now told leaves past e =
    record {
      bank_is = leaves ∙ ap (λ (b : Bank). played m b ps) e ∙ bank_onto m ps past;
      answers_are = history_onto m ps past ∙ ap (λ (xs : List Play). onto xs (map as_play (history m past))) (sym (told ∙ ap (λ (b : Bank). replied m b ps) e));
    }
