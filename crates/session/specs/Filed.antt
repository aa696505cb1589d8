-- The orders of a resting body are few enough for a book.
use Rattle.std.specs.Prelude.{◌≡◌, ℕ, ◌*◌, ◌/◌, ◌%◌, ◌≤◌, true, List, length, ◌==◌, nat_le}
use Rattle.std.proofs.Common.{arith}
use Rattle.std.proofs.lemmas.List.FromFn.{length-map-range_with_len}
use Rattle.std.proofs.lemmas.Bool.{and_parts, leb-true}
use Rattle.session.specs.Faults.{fits}
use Rattle.session.specs.declared.body.BodyKind.TheVariants.{Resting}
use Rattle.session.specs.Records.{order_at, order_size, orders_in}

pub filed_short : (bs : List ℕ) → fits Resting (length bs) ≡ true → length (orders_in bs) ≤ 4096
filed_short bs fitting =
    let few = leb-true (length bs) 3072 (and_parts (length bs % 12 == 0) (nat_le (length bs) 3072) fitting).1 in
    omega (arith, length-map-range_with_len (λ k. order_at bs (order_size * k)) 0 (length bs / order_size), few)
