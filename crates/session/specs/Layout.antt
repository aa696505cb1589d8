-- What a session file is: a relation between bytes and a session.
use Rattle.std.specs.Prelude.{◌≡◌, ℕ, ◌+◌, ◌≤◌, true, cond, List, [], ◌∷◌, ◌++◌, length, Some, None, Option}
use Rattle.market.specs.declared.order.OrderTerms.{OrderTerms}
use Rattle.market.specs.Prices.{LawfulPrice}
use Rattle.session.specs.declared.body.BodyKind.TheVariants.{Heading, Resting, Events, Note}
use Rattle.session.specs.declared.field.Width.{Width}
use Rattle.session.specs.declared.field.Width.TheVariants.{One, Two}
use Rattle.session.specs.declared.field.Values.TheVariants.{Ranking}
use Rattle.session.specs.Fields.{byte, four, admits, Spells}
use Rattle.market.specs.Calls.{Timed}
use Rattle.session.specs.Records.{
  order_size,
  event_size,
  most_resting,
  heading_numbers,
  OrderRecord,
  EventRecord,
  Records,
  orders_in,
  events_in,
}
use Rattle.session.specs.Contents.{present, body}
use Rattle.session.specs.Faults.{largest_file}

-- A session: the heading, and each other body that is present.
pub record Session : Type 0 where
  pub last_sale : ℕ
  pub ranking : ℕ
  pub resting : Option (List OrderTerms)
  pub events : Option (List Timed)
  pub note : Option (List ℕ)

-- a bit of the mask, where its body is present
abbrev pub flag : {X : Type 0} → ℕ → Option X → ℕ
flag n None = 0
flag n (Some x) = n

-- a length in the contents, where its body is present
abbrev pub length_told : {X : Type 0} → Option X → List ℕ → List (Width × ℕ)
length_told None bs = []
length_told (Some x) bs = (Two, length bs) ∷ []

-- an absent body has no bytes
abbrev pub Body : {X : Type 0} → (X → List ℕ → Type 0) → Option X → List ℕ → Type 0
Body R None bs = bs ≡ []
Body R (Some x) bs = R x bs

-- the mask, and a length for each body that is present
abbrev pub contents_numbers : Session → (heading resting events note : List ℕ) → List (Width × ℕ)
contents_numbers s h r e n =
    (One, 1 + flag 2 s.resting + flag 4 s.events + flag 8 s.note)
    ∷ (Two, length h)
    ∷ (length_told s.resting r ++ (length_told s.events e ++ length_told s.note n))

abbrev pub HeadingBody : (last_sale ranking : ℕ) → List ℕ → Type 0
HeadingBody l r bs = Spells (heading_numbers l r) bs × LawfulPrice l × (admits Ranking r ≡ true)

abbrev pub RestingBody : List OrderTerms → List ℕ → Type 0
RestingBody os bs = (length os ≤ most_resting) × Records order_size OrderRecord os bs 0

abbrev pub EventsBody : List Timed → List ℕ → Type 0
EventsBody es bs = Records event_size EventRecord es bs 0

abbrev pub NoteBody : List ℕ → List ℕ → Type 0
NoteBody note bs = bs ≡ note

-- The file is the contents and then the bodies, without gaps.
pub record KeepsLayout (file : List ℕ) (s : Session) : Type 0 where
  pub contents : List ℕ
  pub heading : List ℕ
  pub resting : List ℕ
  pub events : List ℕ
  pub note : List ℕ
  pub small : length file ≤ largest_file
  pub laid : file ≡ contents ++ (heading ++ (resting ++ (events ++ note)))
  pub listed : Spells (contents_numbers s heading resting events note) contents
  pub headed : HeadingBody s.last_sale s.ranking heading
  pub rested : Body RestingBody s.resting resting
  pub timed : Body EventsBody s.events events
  pub noted : Body NoteBody s.note note

-- The session that the bytes of an accepted file say.
abbrev pub session_of : List ℕ → Session
session_of file = record {
  last_sale = four (body file Heading) 0;
  ranking = byte (body file Heading) 4;
  resting = cond (present file Resting) (Some (orders_in (body file Resting))) None;
  events = cond (present file Events) (Some (events_in (body file Events))) None;
  note = cond (present file Note) (Some (body file Note)) None;
}
