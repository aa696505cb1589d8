-- What a pass over a book answers.
use Rattle.std.specs.Prelude.{◌≡◌, ℕ, ◌+◌, ◌*◌, ◌≤◌, List, sum_by}
use Rattle.market.specs.declared.order.OrderTerms.{OrderTerms}
use Rattle.cross.specs.declared.depth.Depth.{Depth}
use Rattle.cross.specs.Depth.{bought, bought_above, sold, sold_below}
use Rattle.cross.specs.Limits.{buy_shares, buy_shares_above, sell_shares, sell_shares_below}

-- by the limits of the orders
abbrev pub depth_by_limits : (price : ℕ) → List OrderTerms → Depth
depth_by_limits p os = record {
  bought = sum_by (buy_shares p) os;
  sold = sum_by (sell_shares p) os;
  bought_above = sum_by (buy_shares_above p) os;
  sold_below = sum_by (sell_shares_below p) os;
}

-- by their counted prices in a range
abbrev pub depth_at : (lowest highest price : ℕ) → List OrderTerms → Depth
depth_at lo hi p os = record {
  bought = bought lo hi os p;
  sold = sold lo hi os p;
  bought_above = bought_above lo hi os p;
  sold_below = sold_below lo hi os p;
}

-- room for n orders more, of at most a million shares each
abbrev pub Room : (n : ℕ) → Depth → Type 0
Room n d =
    (d.bought + 1000000 * n ≤ 4096000000)
    × (d.sold + 1000000 * n ≤ 4096000000)
    × (d.bought_above + 1000000 * n ≤ 4096000000)
    × (d.sold_below + 1000000 * n ≤ 4096000000)

-- the depth with one order more
pub record Adds (price : ℕ) (o : OrderTerms) (before after : Depth) : Type 0 where
  pub bought : after.bought ≡ before.bought + buy_shares price o
  pub sold : after.sold ≡ before.sold + sell_shares price o
  pub above : after.bought_above ≡ before.bought_above + buy_shares_above price o
  pub below : after.sold_below ≡ before.sold_below + sell_shares_below price o
