-- The records of resting orders: a record with no bad field is that of the order that is read from it, and the
-- record of an order has no bad field and reads as this order.
use Rattle.std.proofs.Common.{◌≡◌, ℕ, zero, suc, ◌+◌, ◌*◌, ◌/◌, ◌≤◌, Bool, true, false, cond, eqb, leb, List, length, None, sym, refl, arith}
use Rattle.std.proofs.lemmas.List.FromFn.{length-map-range_with_len}
use Rattle.std.proofs.lemmas.Bool.{both_ways, not-true, leb-true, le-leb}
use Rattle.std.proofs.lemmas.Bool.Decides.{nat_tests}
use Rattle.market.specs.declared.order.Side.{Side}
use Rattle.market.specs.declared.order.Side.TheVariants.{Buy, Sell}
use Rattle.market.specs.declared.order.OrderPrice.{OrderPrice}
use Rattle.market.specs.declared.order.OrderPrice.TheVariants.{Market, Limit}
use Rattle.market.specs.declared.order.OrderTerms.{OrderTerms}
use Rattle.market.specs.Prices.{lawful_price}
use Rattle.market.specs.Orders.{Sound, lawful_limit, lawful_shares}
use Rattle.session.specs.declared.body.BodyKind.TheVariants.{Resting}
use Rattle.session.specs.Fields.{byte, two, four, first_bad}
use Rattle.session.specs.Records.{
  order_size,
  most_resting,
  side_number,
  mark,
  limit_number,
  order_numbers,
  OrderRecord,
  order_fields,
  order_at,
  orders_in,
}
use Rattle.session.specs.Faults.{fits, fields_of_order, bad_field}
use Rattle.session.specs.Layout.{RestingBody}
use Rattle.session.proofs.FieldFacts.{Good, good, none_bad, written, stands}
use Rattle.session.proofs.RecordLists.{records_kept, records_read}

order_sound : (bs : List ℕ) (at : ℕ) → first_bad order_fields bs at ≡ None → Sound (order_at bs at)
order_sound bs at e =
    let g = good order_fields bs at e in
    (g.1.1.1.0, g.1.1.1.1.0, leb-true 1 _ g.1.1.0)

-- a mark of one byte, read and written again
side_again : (n : ℕ) → leb n 1 ≡ true → n ≡ side_number (cond (eqb n 0) Buy Sell)
side_again zero h = refl
side_again (suc zero) h = refl
side_again (suc (suc n)) h = absurd (grind (arith, nat_tests))

mark_again : (n : ℕ) → leb n 1 ≡ true → n ≡ mark (eqb n 1)
mark_again zero h = refl
mark_again (suc zero) h = refl
mark_again (suc (suc n)) h = absurd (grind (arith, nat_tests))

order_kept : (bs : List ℕ) (at : ℕ) → first_bad order_fields bs at ≡ None → OrderRecord (order_at bs at) bs at
order_kept bs at e =
    let g = good order_fields bs at e in
    let side = side_again (byte bs at) g.0 in
    let displayed = mark_again (byte bs (at + 1)) g.1.0 in
    let w = written (order_numbers (order_at bs at)) bs at (side, (displayed, (refl, (refl, (refl, tt))))) in
    ((order_sound bs at e, refl), w)

-- a side and a mark, written and read again
side_marks : (s : Side) → (leb (side_number s) 1 ≡ true) × (cond (eqb (side_number s) 0) Buy Sell ≡ s)
side_marks Buy = (refl, refl)
side_marks Sell = (refl, refl)

mark_marks : (b : Bool) → (leb (mark b) 1 ≡ true) × (eqb (mark b) 1 ≡ b)
mark_marks true = (refl, refl)
mark_marks false = (refl, refl)

-- an order that stays has a limit
staying_limit : (p : OrderPrice) (stays : Bool) → stays ≡ true → lawful_limit p stays ≡ true
    → (lawful_price (limit_number p) ≡ true) × (Limit (limit_number p) ≡ p)
staying_limit Market stays s h = absurd (both_ways stays (not-true stays h) s)
staying_limit (Limit cents) stays s h = (h, refl)

-- terms with the same fields are the same
same_terms : (a b : OrderTerms) → a.side ≡ b.side → a.price ≡ b.price → a.shares ≡ b.shares
    → a.entry ≡ b.entry → a.displayed ≡ b.displayed → a.stays ≡ b.stays → a ≡ b
same_terms a b s p n e d t =
    λ i. record { side = s i; price = p i; shares = n i; entry = e i; displayed = d i; stays = t i }

order_read : (bs : List ℕ) (o : OrderTerms) (at : ℕ) → OrderRecord o bs at
    → (first_bad order_fields bs at ≡ None) × (order_at bs at ≡ o)
order_read bs o at r =
    let w = stands (order_numbers o) bs at r.1 in
    let side_is = w.0 in
    let displayed_is = w.1.0 in
    let entry_is = w.1.1.0 in
    let limit_is = w.1.1.1.0 in
    let shares_is = w.1.1.1.1.0 in
    let sound = r.0.0 in
    let side = side_marks o.side in
    let displayed = mark_marks o.displayed in
    let limit = staying_limit o.price o.stays r.0.1 sound.0 in
    let entry : leb 1 (two bs (at + 2)) ≡ true = rw entry_is (le-leb 1 o.entry sound.2) in
    let amounts : (lawful_price (four bs (at + 4)) ≡ true) × (lawful_shares (four bs (at + 8)) ≡ true) =
    (rw limit_is limit.0, rw shares_is sound.1) in
    let g : Good order_fields bs at 0 =
    (rw side_is side.0, (rw displayed_is displayed.0, (entry, (amounts.0, (amounts.1, tt))))) in
    let side_same : (order_at bs at).side ≡ o.side = rw side_is side.1 in
    let price_same : (order_at bs at).price ≡ o.price = rw limit_is limit.1 in
    let displayed_same : (order_at bs at).displayed ≡ o.displayed = rw displayed_is displayed.1 in (
      none_bad order_fields bs at g,
      same_terms (order_at bs at) o side_same price_same shares_is entry_is displayed_same (sym r.0.1),
    )

pub resting_kept : (bs : List ℕ) → fits Resting (length bs) ≡ true → bad_field Resting bs ≡ None
    → RestingBody (orders_in bs) bs
resting_kept bs f e =
    let n = length bs / order_size in
    let whole : 0 + order_size * n ≡ length bs = grind (arith, nat_tests) in
    let short : length bs ≤ order_size * most_resting = grind (arith, nat_tests) in
    let count = length-map-range_with_len (λ k. order_at bs (order_size * k)) 0 n in
    let few : length (orders_in bs) ≤ most_resting = omega (arith, count) in
    (few, records_kept order_size fields_of_order OrderRecord order_at bs (order_kept bs) n 0 0 refl whole e)

pub resting_read : (os : List OrderTerms) (bs : List ℕ) → RestingBody os bs
    → (fits Resting (length bs) ≡ true) × (bad_field Resting bs ≡ None) × (orders_in bs ≡ os)
resting_read os bs r =
    let all = records_read order_size fields_of_order OrderRecord order_at bs (order_read bs) os 0 0 refl r.1 in
    let n : length bs / order_size ≡ length os = omega (arith, all.0) in
    (grind (arith, nat_tests, all.0), rw n all.1, rw n all.2)
