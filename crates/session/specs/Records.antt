-- The records of the bodies: which numbers they are, which values their fields may hold, and what they say.
use Rattle.std.specs.Prelude.{◌≡◌, ℕ, ◌+◌, ◌*◌, ◌/◌, Bool, true, false, cond, List, [], ◌∷◌, map, length, ◌==◌}
use Rattle.std.specs.List.{range_with_len}
use Rattle.market.specs.declared.order.Side.{Side}
use Rattle.market.specs.declared.order.Side.TheVariants.{Buy, Sell}
use Rattle.market.specs.declared.order.OrderPrice.{OrderPrice}
use Rattle.market.specs.declared.order.OrderPrice.TheVariants.{Market, Limit}
use Rattle.market.specs.declared.order.OrderTerms.{OrderTerms}
use Rattle.market.specs.Orders.{Sound}
use Rattle.session.specs.declared.field.Width.{Width}
use Rattle.session.specs.declared.field.Width.TheVariants.{One, Two, Four}
use Rattle.session.specs.declared.field.Values.{Values}
use Rattle.session.specs.declared.field.Values.TheVariants.{
  Zero,
  Mark,
  Ranking,
  EntryNumber,
  Cents,
  CentsOrNone,
  Shares,
  TimeOfDay,
  EventKind,
  EnterFlags,
}
use Rattle.session.specs.declared.field.Field.{Field}
use Rattle.session.specs.Fields.{byte, two, four, has, Written}
use Rattle.market.specs.Calls.{Call, enter, cancel, quote, publish, lock, shut, cross, Timed}
use Rattle.session.specs.Events.{SoundEvent}

-- how many bytes each record has
abbrev pub heading_size : ℕ
heading_size = 8

abbrev pub order_size : ℕ
order_size = 12

abbrev pub event_size : ℕ
event_size = 16

-- a resting body has at most so many orders
abbrev pub most_resting : ℕ
most_resting = 256

-- ---- the numbers that each record is made of

abbrev pub side_number : Side → ℕ
side_number Buy = 0
side_number Sell = 1

abbrev pub mark : Bool → ℕ
mark true = 1
mark false = 0

-- the limit, 0 where there is none
abbrev pub limit_number : OrderPrice → ℕ
limit_number Market = 0
limit_number (Limit cents) = cents

abbrev pub market_mark : OrderPrice → ℕ
market_mark Market = 1
market_mark (Limit cents) = 0

abbrev pub heading_numbers : (last_sale ranking : ℕ) → List (Width × ℕ)
heading_numbers l r = (Four, l) ∷ (One, r) ∷ (One, 0) ∷ (One, 0) ∷ (One, 0) ∷ []

abbrev pub order_numbers : OrderTerms → List (Width × ℕ)
order_numbers o =
    (One, side_number o.side)
    ∷ (One, mark o.displayed)
    ∷ (Two, o.entry)
    ∷ (Four, limit_number o.price)
    ∷ (Four, o.shares)
    ∷ []

-- the flags of an order that is entered: 1 sell, 2 market, 4 stays, 8 displayed
abbrev pub flags : OrderTerms → ℕ
flags o =
    1 * side_number o.side + 2 * market_mark o.price + 4 * mark o.stays + 8 * mark o.displayed

-- kind, flags, number and two amounts; what a kind does not name is 0
abbrev pub call_row : (kind flags number first second : ℕ) → List (Width × ℕ)
call_row k f n a b = (One, k) ∷ (One, f) ∷ (Two, n) ∷ (Four, a) ∷ (Four, b) ∷ []

abbrev pub call_numbers : Call → List (Width × ℕ)
call_numbers (enter o) = call_row 1 (flags o) o.entry (limit_number o.price) o.shares
call_numbers (cancel e n) = call_row 2 0 e 0 n
call_numbers (quote b o) = call_row 3 0 0 b o
call_numbers publish = call_row 4 0 0 0 0
call_numbers lock = call_row 5 0 0 0 0
call_numbers shut = call_row 6 0 0 0 0
call_numbers cross = call_row 7 0 0 0 0

abbrev pub event_numbers : Timed → List (Width × ℕ)
event_numbers e = (Four, e.time) ∷ call_numbers e.call

-- the record of an order or an event begins at a byte. Resting orders stay
abbrev pub OrderRecord : OrderTerms → List ℕ → ℕ → Type 0
OrderRecord o bs at = (Sound o × (o.stays ≡ true)) × Written (order_numbers o) bs at

abbrev pub EventRecord : Timed → List ℕ → ℕ → Type 0
EventRecord e bs at = SoundEvent e × Written (event_numbers e) bs at

-- records of one size, one after the other from a byte to the end
abbrev pub Records : {X : Type 0} → ℕ → (X → List ℕ → ℕ → Type 0) → List X → List ℕ → ℕ → Type 0
Records size R [] bs at = at ≡ length bs
Records size R (x ∷ xs) bs at = R x bs at × Records size R xs bs (at + size)

-- ---- the values that the fields of each record may hold

abbrev pub field : Width → Values → Field
field w v = record { width = w; values = v }

abbrev pub heading_fields : List Field
heading_fields = field Four Cents ∷ field One Ranking ∷ field One Zero ∷ field One Zero ∷ field One Zero ∷ []

abbrev pub order_fields : List Field
order_fields =
    field One Mark ∷ field One Mark ∷ field Two EntryNumber ∷ field Four Cents ∷ field Four Shares ∷ []

-- of flags, number and the two amounts
abbrev pub call_fields : (flags number first second : Values) → List Field
call_fields f n a b = field One f ∷ field Two n ∷ field Four a ∷ field Four b ∷ []

-- what stands after the kind, by the kind and the flags
abbrev pub named_fields : (kind flags : ℕ) → List Field
named_fields k f =
    cond (k == 1) (call_fields EnterFlags EntryNumber (cond (has f 2) Zero Cents) Shares)
    (cond (k == 2) (call_fields Zero EntryNumber Zero Shares)
    (cond (k == 3) (call_fields Zero Zero CentsOrNone CentsOrNone) (call_fields Zero Zero Zero Zero)))

abbrev pub event_fields : (kind flags : ℕ) → List Field
event_fields k f = field Four TimeOfDay ∷ field One EventKind ∷ named_fields k f

-- ---- what a record says, by the places of its fields

abbrev pub order_at : List ℕ → ℕ → OrderTerms
order_at bs at = record {
  side = cond (byte bs at == 0) Buy Sell;
  price = Limit (four bs (at + 4));
  shares = four bs (at + 8);
  entry = two bs (at + 2);
  displayed = (byte bs (at + 1) == 1);
  stays = true;
}

abbrev pub entered : (flags entry limit shares : ℕ) → OrderTerms
entered f e l n = record {
  side = cond (has f 1) Sell Buy;
  price = cond (has f 2) Market (Limit l);
  shares = n;
  entry = e;
  displayed = has f 8;
  stays = has f 4;
}

abbrev pub call_with : (kind flags number first second : ℕ) → Call
call_with k f n a b =
    cond (k == 1) (enter (entered f n a b))
    (cond (k == 2) (cancel n b)
    (cond (k == 3) (quote a b) (cond (k == 4) publish (cond (k == 5) lock (cond (k == 6) shut cross)))))

abbrev pub event_at : List ℕ → ℕ → Timed
event_at bs at = record {
  time = four bs at;
  call = call_with (byte bs (at + 4)) (byte bs (at + 5)) (two bs (at + 6)) (four bs (at + 8)) (four bs (at + 12));
}

-- all that the records of a body say
abbrev pub orders_in : List ℕ → List OrderTerms
orders_in bs = map (λ k. order_at bs (order_size * k)) (range_with_len 0 (length bs / order_size))

abbrev pub events_in : List ℕ → List Timed
events_in bs = map (λ k. event_at bs (event_size * k)) (range_with_len 0 (length bs / event_size))
