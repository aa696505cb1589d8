-- Queueing the orders of a side, a place at a time, and what each of them has in the queue.
use Rattle.std.proofs.Common.{◌≡◌, ℕ, ◌+◌, ◌<◌, ◌≤◌, true, false, List, [], ◌∷◌, ◌++◌, length, drop, get_or, take, set, sym, refl, ap, ◌∙◌, subst, arith}
use Rattle.std.proofs.lemmas.List.FromFn.{get_or-range_with_len}
use Rattle.std.proofs.lemmas.List.Elements.{All-push}
use Rattle.std.proofs.lemmas.List.{drop-drop, get_or-drop, get_or-map, length-drop, length-map, length_push, length-take-le, map_push, take_more_set}
use Rattle.std.specs.List.{All, range_with_len}
use Rattle.market.specs.declared.order.Side.{Side}
use Rattle.market.specs.declared.order.Side.TheVariants.{Buy, Sell}
use Rattle.market.specs.declared.order.OrderTerms.{OrderTerms}
use Rattle.cross.specs.Allotments.{side_places}
use Rattle.cross.specs.declared.queue.Queued.{Queued}
use Rattle.cross.specs.Fills.{at_place, no_order}
use Rattle.cross.specs.Queues.{Queue}
use Rattle.cross.specs.Rankings.{same_side}
use Rattle.cross.proofs.Allotting.{counting_more, places_left, places_within, places_took, took_length}

-- the next order of those from a place on stands there
next_place : (os : List OrderTerms) (k : ℕ) (o : OrderTerms) (rest : List OrderTerms) → drop k os ≡ o ∷ rest
    → (k < length os) × (o ≡ at_place os k) × (rest ≡ drop (k + 1) os)
next_place os k o rest e =
    let first : get_or (drop k os) 0 no_order ≡ at_place os k = get_or-drop k os 0 no_order ∙ ap (at_place os) (omega arith) in (
      omega (arith, length-drop k os, ap length e),
      sym (ap (λ xs. get_or xs 0 no_order) e) ∙ first,
      sym (ap (drop 1) e) ∙ drop-drop 1 k os,
    )

same_turned : (s t : Side) → same_side s t ≡ same_side t s
same_turned Buy Buy = refl
same_turned Buy Sell = refl
same_turned Sell Buy = refl
same_turned Sell Sell = refl

module _ (side : Side) (os : List OrderTerms) where
  -- an order of the side, at its place
  abbrev pub OfSide : Queued → Type 0
  OfSide q = (q.order.terms ≡ at_place os q.place) × (same_side side q.order.terms.side ≡ true)

  abbrev QueueTo : ℕ → List Queued → Type 0
  QueueTo = Queue side os

  -- ---- the order at a place, queued or passed by

  pushed : (k : ℕ) (qs : List Queued) (y : Queued) → QueueTo k qs
      → y.place ≡ k → y.slot ≡ length qs → y.order.terms ≡ at_place os k → same_side side (at_place os k).side ≡ true → QueueTo (k + 1) (qs ++ y ∷ [])
  pushed k qs y of at own is mine = record {
    places = map_push (λ q. q.place) qs y
        ∙ (ap (λ xs. xs ++ y.place ∷ []) of.places
        ∙ (ap (λ i. side_places side os k ++ i ∷ []) at ∙ sym (places_took side os k mine)));
    slots = map_push (λ q. q.slot) qs y
        ∙ (ap (λ xs. xs ++ y.slot ∷ []) of.slots
        ∙ (ap (λ i. range_with_len 0 (length qs) ++ i ∷ []) own
        ∙ (sym (counting_more (length qs)) ∙ ap (range_with_len 0) (sym (length_push qs y)))));
    orders = All-push OfSide qs y of.orders (is ∙ ap (at_place os) (sym at), ap (λ (o : OrderTerms). same_side side o.side) is ∙ mine);
  }

  -- what a turn keeps: how many are queued, and the queue at the front
  abbrev pub QueuedTo : (k w : ℕ) → List Queued → Type 0
  QueuedTo k w queue = (w ≡ length (side_places side os k)) × QueueTo k (take w queue)

  -- what stands before the place is queued, and from there on comes what is ahead
  pub record Queueing (k w : ℕ) (ahead : List OrderTerms) (queue : List Queued) : Type 0 where
    pub within : k ≤ length os
    pub rest : drop k os ≡ ahead
    pub queued : QueuedTo k w queue

  pub queueing_ends : (k w : ℕ) (ahead : List OrderTerms) (queue : List Queued) → ahead ≡ [] → Queueing k w ahead queue → QueuedTo (length os) w queue
  queueing_ends k w ahead queue none h =
      let all : k ≡ length os = omega (arith, h.within, length-drop k os, ap length (h.rest ∙ none)) in
      subst (λ n. QueuedTo n w queue) all h.queued

  -- ---- where another order is next

  module _ (k w : ℕ) (ahead rest : List OrderTerms) (queue : List Queued) (o : OrderTerms) (step : ahead ≡ o ∷ rest) (h : Queueing k w ahead queue) where
    next : (k < length os) × (o ≡ at_place os k) × (rest ≡ drop (k + 1) os)
    next = next_place os k o rest (h.rest ∙ step)

    -- there is a record for it
    pub record_free : (m : ℕ) → length os ≤ m → w < m
    record_free m l = omega (arith, next.0, h.queued.0, places_within side os k)

    pub queues_one : (q : Queued) → q.order.terms ≡ o → q.place ≡ k → q.slot ≡ w → same_side o.side side ≡ true → length os ≤ length queue
        → Queueing (k + 1) (w + 1) rest (set queue w q)
    queues_one q order at own mine l =
        let there : same_side side (at_place os k).side ≡ true = ap (λ (o : OrderTerms). same_side side o.side) (sym next.1) ∙ (same_turned side o.side ∙ mine) in
        let room = record_free (length queue) l in
        let long : length (take w queue) ≡ w = length-take-le w queue (omega arith) in
        record {
          within = omega (arith, next.0);
          rest = sym next.2;
          queued = (
            omega (arith, h.queued.0, took_length side os k there),
            subst (QueueTo (k + 1)) (sym (take_more_set queue w q room)) (pushed k (take w queue) q h.queued.1 at (own ∙ sym long) (order ∙ next.1) there),
          );
        }

    pub queues_none : same_side o.side side ≡ false → Queueing (k + 1) w rest queue
    queues_none other =
        let left = places_left side os k (ap (λ (o : OrderTerms). same_side side o.side) (sym next.1) ∙ (same_turned side o.side ∙ other)) in
        let of = h.queued.1 in
        record {
          within = omega (arith, next.0);
          rest = sym next.2;
          queued = (h.queued.0 ∙ ap length (sym left), record { places = of.places ∙ sym left; slots = of.slots; orders = of.orders });
        }

  -- ---- its record and its place

  module _ (n : ℕ) (queue : List Queued) (of : QueueTo n queue) where
    pub slot_is : (k : ℕ) (d : Queued) → k < length queue → (get_or queue k d).slot ≡ k
    slot_is k d h =
        sym (get_or-map (λ q. q.slot) queue k d 0 h)
        ∙ (ap (λ xs. get_or xs k 0) of.slots ∙ omega (arith, get_or-range_with_len 0 (length queue) k 0 h))

    pub place_is : (k : ℕ) (d : Queued) → k < length queue → (get_or queue k d).place ≡ get_or (side_places side os n) k 0
    place_is k d h = sym (get_or-map (λ q. q.place) queue k d 0 h) ∙ ap (λ xs. get_or xs k 0) of.places

    pub as_many : length (side_places side os n) ≡ length queue
    as_many = sym (ap length of.places) ∙ length-map queue (λ q. q.place)

    pub slots_within : (m : ℕ) → length (side_places side os n) ≤ m → All (λ q. q.slot < m) queue
    slots_within m h k d w = omega (arith, slot_is k d w, as_many)
