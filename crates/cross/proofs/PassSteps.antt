-- A pass over a list, an order at a time: the sums of the orders passed, and the room that is left for those ahead.
use Rattle.std.proofs.Common.{◌≡◌, ℕ, ◌+◌, ◌≤◌, List, length, sum_by, arith}
use Rattle.std.proofs.lemmas.Bool.Decides.{nat_tests}
use Rattle.market.specs.declared.order.OrderTerms.{OrderTerms}
use Rattle.market.specs.Orders.{Sound}
use Rattle.cross.specs.declared.depth.Depth.{Depth}
use Rattle.cross.specs.Limits.{buy_shares, buy_shares_above, sell_shares, sell_shares_below}
use Rattle.cross.specs.Passes.{Room}

pub shares_small : (o : OrderTerms) → Sound o → o.shares ≤ 1000000
shares_small o s = let few = s.1 in grind (arith, nat_tests)

-- the depth of the orders passed, with what those still ahead add, is that of all, and there is room for them
pub record Passing (p : ℕ) (ahead os : List OrderTerms) (d : Depth) : Type 0 where
  pub bought : d.bought + sum_by (buy_shares p) ahead ≡ sum_by (buy_shares p) os
  pub sold : d.sold + sum_by (sell_shares p) ahead ≡ sum_by (sell_shares p) os
  pub above : d.bought_above + sum_by (buy_shares_above p) ahead ≡ sum_by (buy_shares_above p) os
  pub below : d.sold_below + sum_by (sell_shares_below p) ahead ≡ sum_by (sell_shares_below p) os
  pub room : Room (length ahead) d
