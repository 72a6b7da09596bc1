-- Bytes written one after the other.
use Rattle.std.proofs.Common.{◌≡◌, ℕ, ◌+◌, ◌<◌, ◌≤◌, List, [], ◌++◌, get_or, length, take, drop, sym, refl, ap, ◌∙◌, append_assoc, append-nil, arith, length-append}
use Rattle.std.proofs.lemmas.List.{drop-drop, take_more, flat_map_more}
use Rattle.std.proofs.lemmas.List.Folds.{length-flat_map-take}
use Rattle.seven_bit.specs.Numbers.{encoded}
use Rattle.stream.specs.Answers.{bytes, Writes}

pub wrote_then : (a : ℕ) (o : List ℕ) (b : ℕ) (p : List ℕ) (c : ℕ) (q xs ys : List ℕ) → Writes a o b p xs → Writes b p c q ys → Writes a o c q (xs ++ ys)
wrote_then a o b p c q xs ys f s =
    record {
      next_is = omega (arith, f.next_is, s.next_is, length-append xs ys);
      written = s.written ∙ ap (λ (l : List ℕ). l ++ ys) f.written ∙ append_assoc (take a o) xs ys;
      beyond = s.beyond ∙ further;
      room = s.room ∙ f.room;
    }
  where
    further : drop c p ≡ drop c o
    further = rw s.next_is (sym (drop-drop (length ys) b p) ∙ ap (drop (length ys)) f.beyond ∙ drop-drop (length ys) b o)

-- the bytes of one number more of some numbers
pub one_more : (vs : List ℕ) (i : ℕ) → i < length vs → bytes (take i vs) ++ encoded (get_or vs i 0) ≡ bytes (take (i + 1) vs)
one_more vs i h = flat_map_more encoded [] (take i vs) (get_or vs i 0) ∙ ap bytes (sym (take_more vs i 0 h))

-- they are within the bytes of all
pub one_more_fits : (vs : List ℕ) (i : ℕ) → i < length vs → length (bytes (take i vs)) + length (encoded (get_or vs i 0)) ≤ length (bytes vs)
one_more_fits vs i h = length-flat_map-take encoded vs i 0 h

-- at first nothing is written
pub wrote_none : (a : ℕ) (o : List ℕ) → Writes a o a o []
wrote_none a o = record { next_is = omega arith; written = sym (append-nil (take a o)); beyond = refl; room = refl }

-- one number more is written
pub wrote_more : (a : ℕ) (o : List ℕ) (b : ℕ) (p : List ℕ) (c : ℕ) (q vs : List ℕ) (i : ℕ) → i < length vs → Writes a o b p (bytes (take i vs)) → Writes b p c q (encoded (get_or vs i 0)) →
    Writes a o c q (bytes (take (i + 1) vs))
wrote_more a o b p c q vs i h f s = rw (sym (one_more vs i h)) (wrote_then a o b p c q _ _ f s)

-- there is room for one number more
pub more_fits : (a : ℕ) (o : List ℕ) (b : ℕ) (p vs : List ℕ) (i : ℕ) → i < length vs → a + 8 ≤ length o → length (bytes vs) ≤ 8 → Writes a o b p (bytes (take i vs)) →
    b + length (encoded (get_or vs i 0)) ≤ length p
more_fits a o b p vs i h r l f = omega (arith, r, l, f.next_is, f.room, one_more_fits vs i h)

pub wrote_last : (a : ℕ) (o : List ℕ) (b : ℕ) (p xs : List ℕ) → Writes a o b p xs → Writes a o b p (xs ++ [])
wrote_last a o b p xs f = rw (append-nil xs) f
