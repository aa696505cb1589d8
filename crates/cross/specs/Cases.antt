-- Worked cases, computed of the definitions.
use Rattle.std.specs.Prelude.{ℕ, Bool, true, false, ◌&&◌, List, [], ◌∷◌, ◌==◌}
use Rattle.market.specs.declared.order.Side.TheVariants.{Buy, Sell}
use Rattle.market.specs.declared.order.Side.{Side}
use Rattle.market.specs.declared.order.OrderPrice.{OrderPrice}
use Rattle.market.specs.declared.order.OrderPrice.TheVariants.{Market, Limit}
use Rattle.market.specs.declared.order.OrderTerms.{OrderTerms}
use Rattle.market.specs.Ranges.{collar_highest, collar_lowest, reference_highest, reference_lowest, twice_middle}
use Rattle.cross.specs.Depth.{executed}
use Rattle.cross.specs.Clearing.{clearing_price}
use Rattle.cross.specs.Crossing.{clearing_fills}
use Rattle.cross.specs.Rankings.{by_display, by_shares}

abbrev order : Side → OrderPrice → ℕ → OrderTerms
order side price shares = record {
  side = side;
  price = price;
  shares = shares;
  entry = 1;
  displayed = true;
  stays = false;
}

abbrev buy : (shares limit : ℕ) → OrderTerms
buy n l = order Buy (Limit l) n

abbrev sell : (shares limit : ℕ) → OrderTerms
sell n l = order Sell (Limit l) n

-- the collar of a quote and a last sale
abbrev collar_is : (bid offer last_sale lowest highest : ℕ) → Bool
collar_is b o s lo hi =
    (collar_lowest (reference_lowest b o s) (reference_highest b o s) == lo)
    && collar_highest (reference_lowest b o s) (reference_highest b o s) == hi

-- what a book clears at in the collar of a quote
abbrev clears : (bid offer : ℕ) → List OrderTerms → (price shares : ℕ) → Bool
clears b o os p n =
    (clearing_price (collar_lowest b o) (collar_highest b o) (twice_middle b o) os == p)
    && executed (collar_lowest b o) (collar_highest b o) os p == n

-- a tenth of the tie-breaker on either side
abbrev pub wide_collar : Bool
wide_collar = collar_is 1000 1100 1000 895 1205

-- at least 50 cents on either side, and no price below 1
abbrev pub low_collar : Bool
low_collar = collar_is 40 60 50 1 110

-- a bid above the offer gives no range: the last sale does
abbrev pub crossed_quote_collar : Bool
crossed_quote_collar = collar_is 1100 1000 1000 900 1100

-- not at 1020, the first price with most shares: the buy would pay more
abbrev pub buy_excess_lifts_price : Bool
buy_excess_lifts_price = clears 1000 1100 (buy 300 1050 ∷ sell 200 1020 ∷ []) 1050 200

-- the tie-breaker decides, at a price that nobody entered
abbrev pub tie_breaker_between_limits : Bool
tie_breaker_between_limits = clears 1000 1100 (buy 200 1060 ∷ sell 200 1020 ∷ []) 1050 200

-- orders beyond the collar count at its edge
abbrev pub market_buy_counts_at_edge : Bool
market_buy_counts_at_edge = clears 1000 1100 (order Buy Market 500 ∷ sell 200 1020 ∷ sell 200 1040 ∷ []) 1205 400

-- no order: the tie-breaker
abbrev pub empty_book_at_tie_breaker : Bool
empty_book_at_tie_breaker = clears 1000 1100 [] 1050 0

-- a tie-breaker between two cents, both as near: the lower
abbrev pub lower_of_two_as_near : Bool
lower_of_two_as_near = clears 1000 1001 (buy 100 1001 ∷ sell 100 1000 ∷ []) 1000 100

-- a sell of 300 against a hidden buy with entry number 1 and a displayed one with entry number 2, each of 200, all at
-- one price
abbrev two_buys : List OrderTerms
two_buys =
    sell 300 1050
    ∷ record { side = Buy; price = Limit 1050; shares = 200; entry = 1; displayed = false; stays = false }
    ∷ record { side = Buy; price = Limit 1050; shares = 200; entry = 2; displayed = true; stays = false }
    ∷ []

-- what the two buys get under a ranking, in the collar of the quote 1000 / 1100
abbrev two_fills : (OrderTerms → OrderTerms → Bool) → (hidden displayed : ℕ) → Bool
two_fills good n m =
    (clearing_fills 895 1205 good two_buys 2100 1 == n) && clearing_fills 895 1205 good two_buys 2100 2 == m

abbrev pub displayed_served_first : Bool
displayed_served_first = two_fills by_display 100 200

abbrev pub earlier_served_first : Bool
earlier_served_first = two_fills by_shares 200 100

abbrev pub all_cases : Bool
all_cases =
    wide_collar
    && (low_collar
    && (crossed_quote_collar
    && (buy_excess_lifts_price
    && (tie_breaker_between_limits && (market_buy_counts_at_edge && (empty_book_at_tie_breaker && (lower_of_two_as_near && (displayed_served_first && earlier_served_first))))))))
