use Rattle.std.proofs.Common.{◌≡◌, ◌+◌, ◌-◌, ◌≤◌, length, take, drop, arith, ap, ◌∙◌, length-append, length-take, length-drop}
use Rattle.std.proofs.lemmas.Slice.{take-put_mid, drop-put_mid}
use Rattle.seven_bit.proofs.Filling.{zeros_on, as_many}
use Rattle.seven_bit.proofs.byte_list.ByteList.extend.Goals as goal

pub invariant_of-self : goal.invariant_of-self
invariant_of-self g c =
    let bytes = c.self.inside.bytes in
    let at = c.self.inside.count in
    let n = length c.args.more.now in
    let new = c.copy_from_slice.new.self in
    let h = c.self.invariant in
    let fits : at + n ≤ length bytes = omega (arith, h.0, h.1, c.if-more-self.true) in
    let some : length new ≡ at + n - at = omega (arith, c.copy_from_slice.ensures.len, length-take (at + n - at) (drop at bytes), length-drop at bytes, fits) in
    let front = ap length (take-put_mid at (at + n - at) bytes new (at + n) (omega (arith, some)) h.0) ∙ length-append (take at bytes) new in
    let back = drop-put_mid at (at + n - at) bytes new (at + n) (omega arith) h.0 some in
    let long = as_many bytes _ (at + n) fits (omega (arith, front, some, length-take at bytes, h.0)) back in
    (omega (arith, long, fits), long ∙ h.1, back ∙ zeros_on bytes g.row.N at n h.2)
