use Rattle.std.proofs.Common.{◌≡◌, ◌*◌, ◌%◌, ◌^◌, sym, ap, ◌∙◌, rules}
use Rattle.arithmetic.specs.Residues.{word}
use Rattle.arithmetic.proofs.Words.{product_bits}
use Rattle.arithmetic.proofs.times.Goals as goal

pub returns : goal.returns
returns c =
    let bits : c.word_of.result ≡ word c.args.c = search rules in
    ap (λ k. (c.args.bits * k) % 2 ^ 64) bits ∙ sym (product_bits c.args.c c.args.bits)
