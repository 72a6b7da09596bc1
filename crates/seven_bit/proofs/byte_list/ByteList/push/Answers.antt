use Rattle.std.proofs.Common.{◌≡◌, ◌+◌, length, slice_set, arith, length-set, ◌∙◌}
use Rattle.std.proofs.lemmas.List.{drop-set-lt}
use Rattle.seven_bit.proofs.Filling.{zeros_on}
use Rattle.seven_bit.proofs.byte_list.ByteList.push.Goals as goal

pub invariant_of-self : goal.invariant_of-self
invariant_of-self g c =
    let bytes = c.self.inside.bytes in
    let at = c.self.inside.count in
    let h = c.self.invariant in
    let long : length (slice_set bytes at c.args.byte) ≡ length bytes = length-set bytes at c.args.byte in
    (omega (arith, long, h.1), long ∙ h.1, drop-set-lt (at + 1) bytes at c.args.byte (omega arith) ∙ zeros_on bytes g.row.N at 1 h.2)
