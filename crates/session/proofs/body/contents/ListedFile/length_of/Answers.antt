-- The length of a body that the mask has stands within the contents.
use Rattle.std.proofs.Common.{◌≡◌, ◌-◌, bit_and, count_ones, sym, ap, ◌∙◌, arith}
use Rattle.session.specs.Contents.{mask, rank}
use Rattle.session.proofs.Masks.{rank_below}
use Rattle.session.proofs.body.contents.ListedFile.length_of.Goals as goal

pub two_at-requires : goal.two_at-requires
two_at-requires c =
    let file = c.args.self in
    let m = mask file.bytes.now in
    let before : c.ones_in-before.result ≡ rank m c.args.kind = c.ones_in-before.ensures.value ∙ ap (λ n. count_ones (bit_and m (n - 1))) c.bit.ensures in
    let below = rank_below m c.args.kind file.known (sym c.has.ensures ∙ c.if-not-has.false) in
    omega (arith, before, below, file.tabled)
