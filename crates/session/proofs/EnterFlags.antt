-- The flags of an order that is entered: those that the field may hold are those of the order that is read from
-- them, and those of an order are among them and read as this order.
use Rattle.std.proofs.Common.{◌≡◌, ℕ, Bool, true, false, cond, not, ◌&&◌, eqb, leb, refl}
use Rattle.std.proofs.lemmas.Bool.{false≢true, leb-true, eqb-true, and_parts}
use Rattle.market.specs.declared.order.Side.{Side}
use Rattle.market.specs.declared.order.Side.TheVariants.{Buy, Sell}
use Rattle.market.specs.declared.order.OrderPrice.{OrderPrice}
use Rattle.market.specs.declared.order.OrderPrice.TheVariants.{Market, Limit}
use Rattle.market.specs.declared.order.OrderTerms.{OrderTerms}
use Rattle.market.specs.Orders.{lawful_limit}
use Rattle.session.specs.declared.field.Values.TheVariants.{Zero, Cents, EnterFlags}
use Rattle.session.specs.Fields.{has, admits}
use Rattle.session.specs.Records.{limit_number, flags, entered}
use Rattle.session.proofs.Sixteen.{at_each, every}

-- the flags read and written again, computed at each of the sixteen
pub flags_again : (f entry limit shares : ℕ) → admits EnterFlags f ≡ true → f ≡ flags (entered f entry limit shares)
unfolding every
flags_again f e l n h =
    let small = leb-true f 15 (and_parts (leb f 15) _ h).0 in
    eqb-true f _ (at_each (λ m. eqb m (flags (entered m e l n))) refl f small)

-- the limit read and written again
pub limit_again : (market : Bool) (n : ℕ) → admits (cond market Zero Cents) n ≡ true
    → n ≡ limit_number (cond market Market (Limit n))
limit_again true n h = eqb-true n 0 h
limit_again false n h = refl

-- that limit is lawful, by whether the order is a market order and whether it stays
pub limit_lawful : (market stays : Bool) (n : ℕ) → not (market && stays) ≡ true
    → admits (cond market Zero Cents) n ≡ true → lawful_limit (cond market Market (Limit n)) stays ≡ true
limit_lawful true stays n f a = f
limit_lawful false stays n f a = a

-- an order's flags and its limit are good, and they read as the order
abbrev Reads : OrderTerms → Type 0
Reads o =
    (admits EnterFlags (flags o) ≡ true)
    × (admits (cond (has (flags o) 2) Zero Cents) (limit_number o.price) ≡ true)
    × (entered (flags o) o.entry (limit_number o.price) o.shares ≡ o)

abbrev terms : Side → OrderPrice → (shares entry : ℕ) (displayed stays : Bool) → OrderTerms
terms s p n e d t = record { side = s; price = p; shares = n; entry = e; displayed = d; stays = t }

reads : (p : OrderPrice) (t : Bool) (s : Side) (d : Bool) (n e : ℕ) → lawful_limit p t ≡ true → Reads (terms s p n e d t)
reads Market true s d n e h = absurd (false≢true h)
reads Market false Buy true n e h = (refl, refl, refl)
reads Market false Buy false n e h = (refl, refl, refl)
reads Market false Sell true n e h = (refl, refl, refl)
reads Market false Sell false n e h = (refl, refl, refl)
reads (Limit c) true Buy true n e h = (refl, h, refl)
reads (Limit c) true Buy false n e h = (refl, h, refl)
reads (Limit c) true Sell true n e h = (refl, h, refl)
reads (Limit c) true Sell false n e h = (refl, h, refl)
reads (Limit c) false Buy true n e h = (refl, h, refl)
reads (Limit c) false Buy false n e h = (refl, h, refl)
reads (Limit c) false Sell true n e h = (refl, h, refl)
reads (Limit c) false Sell false n e h = (refl, h, refl)

pub flags_read : (o : OrderTerms) → lawful_limit o.price o.stays ≡ true → Reads o
flags_read o h = reads o.price o.stays o.side o.displayed o.shares o.entry h
