-- The two rankings are lawful: price first is, where a rule that is total and transitive decides among one price.
use Rattle.std.specs.Prelude.{◌≡◌, Bool, true, false}
use Rattle.std.proofs.Common.{arith}
use Rattle.std.proofs.lemmas.Bool.Decides.{nat_tests}
use Rattle.market.specs.declared.order.OrderTerms.{OrderTerms}
use Rattle.cross.specs.Rankings.{Laws, by_display, by_price_then, by_shares}

by_price_then_laws : (then : OrderTerms → OrderTerms → Bool)
    → ((a b : OrderTerms) → then a b ≡ false → then b a ≡ true)
    → ((a b c : OrderTerms) → then a b ≡ true → then b c ≡ true → then a c ≡ true)
    → Laws (by_price_then then)
by_price_then_laws then total transitive = record {
  one_side = λ a b e. grind arith;
  total = λ a b e f. let other = total a b in grind (arith, nat_tests);
  transitive = λ a b c e f. let chain = transitive a b c in grind (arith, nat_tests);
  price_first = λ a b e f. grind (arith, nat_tests);
}

pub display_laws : Laws by_display
display_laws = by_price_then_laws _ (λ a b e. grind (arith, nat_tests)) (λ a b c e f. grind (arith, nat_tests))

pub shares_laws : Laws by_shares
shares_laws = by_price_then_laws _ (λ a b e. grind (arith, nat_tests)) (λ a b c e f. grind (arith, nat_tests))
