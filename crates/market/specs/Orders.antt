-- The orders that exist.
use Rattle.std.specs.Prelude.{◌≡◌, ℕ, ◌≤◌, Bool, true, not, ◌&&◌, nat_le}
use Rattle.market.specs.Prices.{lawful_price}
use Rattle.market.specs.declared.order.OrderPrice.{OrderPrice}
use Rattle.market.specs.declared.order.OrderPrice.TheVariants.{Market, Limit}
use Rattle.market.specs.declared.order.OrderTerms.{OrderTerms}

-- shares that an order may have, or that may be taken off one
abbrev pub lawful_shares : ℕ → Bool
lawful_shares n = nat_le 1 n && nat_le n 1000000

-- a limit is a price, and a market order does not stay
abbrev pub lawful_limit : OrderPrice → Bool → Bool
lawful_limit Market stays = not stays
lawful_limit (Limit cents) stays = lawful_price cents

-- an entry number has two bytes, so that 65,535 is the highest by its type
abbrev pub Sound : OrderTerms → Type 0
Sound o = (lawful_limit o.price o.stays ≡ true) × (lawful_shares o.shares ≡ true) × (1 ≤ o.entry)
