-- A list's array is 0 past its count, and stays so where bytes are added.
use Rattle.std.proofs.Common.{◌≡◌, ℕ, ◌+◌, ◌-◌, ◌≤◌, List, length, take, drop, replicate, sym, ap, arith, take-append-drop, length-append, length-drop}
use Rattle.std.proofs.lemmas.List.{drop-drop, drop-replicate}

-- 0 from a place on is 0 from a later one on
pub zeros_on : (bytes : List ℕ) (N c k : ℕ) → drop c bytes ≡ replicate (N - c) 0 → drop (c + k) bytes ≡ replicate (N - (c + k)) 0
zeros_on bytes N c k z =
    let less : N - c - k ≡ N - (c + k) = omega arith in
    rw (sym (drop-drop k c bytes), z, drop-replicate {X = ℕ} k (N - c) 0, less)

-- bytes that are changed before a place alone are as many as they were
pub as_many : (bytes changed : List ℕ) (n : ℕ) → n ≤ length bytes → length (take n changed) ≡ n → drop n changed ≡ drop n bytes → length changed ≡ length bytes
as_many bytes changed n h front back =
    omega (arith, ap length (take-append-drop n changed), length-append (take n changed) (drop n changed), front, ap length back, length-drop n bytes, h)
