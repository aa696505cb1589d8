-- Ranges of prices: counted prices, the reference range of a quote, and the collar.
use Rattle.std.specs.Prelude.{ℕ, ◌+◌, ◌-◌, ◌/◌, min, max, Bool, cond, not, ◌&&◌, Some, None, Option, ◌==◌, nat_le}
use Rattle.market.specs.Prices.{highest_price, lowest_price}
use Rattle.market.specs.declared.order.Side.{Side}
use Rattle.market.specs.declared.order.Side.TheVariants.{Buy, Sell}
use Rattle.market.specs.declared.order.OrderPrice.{OrderPrice}
use Rattle.market.specs.declared.order.OrderPrice.TheVariants.{Market, Limit}
use Rattle.market.specs.declared.order.OrderTerms.{OrderTerms}
use Rattle.market.specs.declared.price.Price.{Price}

-- In a range, a buy that is market or above it counts at the highest price, and a sell that is market or below it
-- at the lowest; any other order counts at its limit.
abbrev pub counted_price : (lowest highest : ℕ) → Side → OrderPrice → ℕ
counted_price lo hi Buy Market = hi
counted_price lo hi Buy (Limit cents) = min cents hi
counted_price lo hi Sell Market = lo
counted_price lo hi Sell (Limit cents) = max cents lo

-- the order with its counted price as its limit
abbrev pub counted : (lowest highest : ℕ) → OrderTerms → OrderTerms
counted lo hi o = record {
  side = o.side;
  price = Limit (counted_price lo hi o.side o.price);
  shares = o.shares;
  entry = o.entry;
  displayed = o.displayed;
  stays = o.stays;
}

-- the price of a quote's side, 0 where there is none
abbrev pub cents_of : Option Price → ℕ
cents_of None = 0
cents_of (Some p) = p.cents

-- a quote gives a range if it has both sides and the bid is not above the offer
abbrev pub gives_range : (bid offer : ℕ) → Bool
gives_range b o = not (b == 0) && (not (o == 0) && nat_le b o)

-- the two ends of the reference range: the quote's sides if they give a range, else the last sale
abbrev pub reference_lowest : (bid offer last_sale : ℕ) → ℕ
reference_lowest b o l = cond (gives_range b o) b l

abbrev pub reference_highest : (bid offer last_sale : ℕ) → ℕ
reference_highest b o l = cond (gives_range b o) o l

-- twice the tie-breaker, which is the middle of the reference range
abbrev pub twice_middle : (lowest highest : ℕ) → ℕ
twice_middle lo hi = lo + hi

-- 50 cents, or a tenth of the tie-breaker where that is more, fraction dropped
abbrev pub threshold : (lowest highest : ℕ) → ℕ
threshold lo hi = max 50 (twice_middle lo hi / 20)

-- the collar of a reference range: the threshold on either side, within the prices that exist
abbrev pub collar_lowest : (lowest highest : ℕ) → ℕ
collar_lowest lo hi = max lowest_price (lo - threshold lo hi)

abbrev pub collar_highest : (lowest highest : ℕ) → ℕ
collar_highest lo hi = min highest_price (hi + threshold lo hi)
