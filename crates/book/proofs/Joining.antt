-- What two books answer for their own places is what their join answers.
use Rattle.std.proofs.Common.{◌≡◌, ℕ, ◌+◌, ◌-◌, ◌<◌, ◌≤◌, min, List, ◌++◌, length, Some, None, Option, sym, ap, ◌∙◌, arith}
use Rattle.std.proofs.lemmas.List.{get_or_append_left, get_or-append_right, get_or-take, length-append, length-take}
use Rattle.market.specs.declared.order.OrderTerms.{OrderTerms}
use Rattle.market.specs.declared.order.sound.Order.{Order}
use Rattle.book.specs.Answers.{AnswersAt}
use Rattle.book.specs.Lists.{joined, most_orders}

pub length_joined : (xs ys : List OrderTerms) → length (joined xs ys) ≡ min most_orders (length xs + length ys)
length_joined xs ys = length-take most_orders (xs ++ ys) ∙ ap (min most_orders) (length-append xs ys)

-- a place of the first book
pub joined_first : (xs ys : List OrderTerms) (k : ℕ) (r : Option Order) → k < most_orders → k < length xs → AnswersAt xs k r → AnswersAt (joined xs ys) k r
joined_first xs ys k None h l a = absurd (omega arith)
joined_first xs ys k (Some o) h l a = (
  omega (arith, length_joined xs ys),
  a.1 ∙ (sym (get_or_append_left xs ys o.terms k l) ∙ sym (get_or-take most_orders (xs ++ ys) k o.terms h)),
)

-- a place past the first book
pub joined_second : (xs ys : List OrderTerms) (n k : ℕ) (r : Option Order) → k < most_orders → length xs ≡ n → n ≤ k → AnswersAt ys (k - n) r
    → AnswersAt (joined xs ys) k r
joined_second xs ys n k None h e l a = omega (arith, length_joined xs ys)
joined_second xs ys n k (Some o) h e l a = (
  omega (arith, length_joined xs ys, a.0),
  a.1 ∙ (sym (get_or-append_right xs ys n k o.terms e l) ∙ sym (get_or-take most_orders (xs ++ ys) k o.terms h)),
)
