-- What a replay promises.
use Rattle.std.specs.Prelude.{◌≡◌, ℕ, ◌<◌, ◌≤◌, Bool, false, List}
use Rattle.market.specs.Causes.{cause}
use Rattle.market.specs.Prices.{lawful_price}
use Rattle.market.specs.declared.order.OrderTerms.{OrderTerms}
use Rattle.cross.specs.declared.allotment.Allotment.{Allotment}
use Rattle.replay.specs.declared.step.Failure.{Failure}
use Rattle.replay.specs.declared.step.Failure.TheVariants.{Refused, AnswersShort}
use Rattle.replay.specs.Account.{Account, Balanced}
use Rattle.replay.specs.Performing.{State, Reply}
use Rattle.replay.specs.Promises.{EveryCallKept}
use Rattle.auction.specs.Refusing.{refusal}
use Rattle.replay.specs.Runs.{Asked, after, answers}

-- From a state on, the calls were answered, and the auction book and the allotment list left, as defined; every cross and
-- every price answered is best and fair; and the account balances after the start and after each call, so also for
-- the answers given and the book left.
pub record Ran (good : OrderTerms → OrderTerms → Bool) (d : State) (ss : List Asked) (reply : List Reply) (orders : List OrderTerms) (list : List Allotment) : Type 0 where
  pub answered : reply ≡ answers good d ss
  pub rests : orders ≡ (after good d ss).auction.orders
  pub written : list ≡ (after good d ss).list
  pub kept : EveryCallKept good d ss
  pub account : Account good d ss
  pub balanced : Balanced orders reply

-- A run is refused only where the calls are more than their answers have room for, or else where the last sale is no price.
abbrev pub Fails : (last_sale calls room : ℕ) → Failure → Type 0
Fails l n room (Refused e) = (n ≤ room) × (cause e ≡ refusal 5) × (lawful_price l ≡ false)
Fails l n room AnswersShort = room < n
