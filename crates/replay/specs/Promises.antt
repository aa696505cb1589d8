-- What is promised of every clearing price with its fills, and of the prices and fills that a run answers and writes.
use Rattle.std.specs.Prelude.{◌≡◌, ℕ, ◌≤◌, Bool, cond, List, ◌∷◌, ◌++◌, ◌==◌}
use Rattle.market.specs.declared.order.OrderTerms.{OrderTerms}
use Rattle.cross.specs.declared.allotment.Allotment.{Allotment}
use Rattle.cross.specs.Allotments.{allotted}
use Rattle.cross.specs.Clearing.{clearing_price}
use Rattle.cross.specs.Crosses.{Best, Fair, executes}
use Rattle.cross.specs.Crossing.{clearing_fills}
use Rattle.cross.specs.Rankings.{Laws}
use Rattle.auction.specs.declared.answer.Figures.{Figures}
use Rattle.auction.specs.declared.answer.Outcome.{Outcome}
use Rattle.auction.specs.Auctions.{Auction, collar_high, collar_low, range_high, range_low, twice, whole}
use Rattle.replay.specs.Performing.{State, Reply, refuses, enters, cancels, quotes, publishes, moves, crosses}
use Rattle.replay.specs.Runs.{Asked, after, step}
use Rattle.auction.specs.Settling.{settled}

-- of a list of orders in a range, by a tie-breaker and a ranking: no rival does better, and the ranking is kept
pub record BestAndFair
    (lowest highest twice : ℕ) (good : OrderTerms → OrderTerms → Bool) (os : List OrderTerms) (price : ℕ) (fill : ℕ → ℕ) : Type 0 where
  pub best : Best lowest highest os twice price fill
  pub fair : Fair lowest highest os good price fill

-- The clearing price with its fills is so for every list of orders, every ranking that keeps its laws, every range and
-- every tie-breaker.
abbrev pub EveryClearing : Type 0
EveryClearing =
    (os : List OrderTerms) (good : OrderTerms → OrderTerms → Bool) → Laws good
    → (lowest highest twice : ℕ) → lowest ≤ highest
    → BestAndFair lowest highest twice good os (clearing_price lowest highest twice os) (clearing_fills lowest highest good os twice)

-- Whatever lawful ranking there is, a list of orders has such fills at a price.
abbrev pub BestPrice : (lowest highest twice : ℕ) → List OrderTerms → (price : ℕ) → Type 0
BestPrice lo hi t os p = (good : OrderTerms → OrderTerms → Bool) → Laws good → (fill : ℕ → ℕ) × BestAndFair lo hi t good os p fill

-- the three prices of an accepted publish, each in its book and range; every best cross at the first executes the paired
-- shares
pub record PublishKept (a : Auction) (filed : List OrderTerms) (f : Figures) : Type 0 where
  pub reference : BestPrice (range_low a) (range_high a) (twice a) a.orders f.reference_price
  pub paired : (fill : ℕ → ℕ) → Best (range_low a) (range_high a) a.orders (twice a) f.reference_price fill
      → f.paired_shares ≡ executes (range_low a) (range_high a) a.orders fill
  pub indicative : BestPrice (collar_low a) (collar_high a) (twice a) (whole a filed) f.indicative_price
  pub auction : BestPrice (collar_low a) (collar_high a) (twice a) a.orders f.auction_price

-- an accepted cross, by what it answered and wrote: such a price with such fills
pub record CrossKept (good : OrderTerms → OrderTerms → Bool) (a : Auction) (filed : List OrderTerms) (o : Outcome) (before after : List Allotment) : Type 0 where
  pub price : ℕ
  pub fill : ℕ → ℕ
  pub crosses : BestAndFair (collar_low a) (collar_high a) (twice a) good (whole a filed) price fill
  pub executed : o.executed ≡ executes (collar_low a) (collar_high a) (whole a filed) fill
  pub answered : o.price ≡ cond (o.executed == 0) 0 price
  pub written : after ≡ allotted (whole a filed) fill before
  pub filled : o.filled ≡ (settled a.orders fill).filled
  pub ended : o.ended ≡ (settled a.orders fill).ended
  pub released : o.released ≡ (settled a.orders fill).released

-- what a call promises of what it did
abbrev pub Kept : (OrderTerms → OrderTerms → Bool) → State → (filed : List OrderTerms) → Reply → (after : List Allotment) → Type 0
Kept good d filed (refuses c) after = after ≡ d.list
Kept good d filed (enters n) after = after ≡ d.list
Kept good d filed (cancels n) after = after ≡ d.list
Kept good d filed quotes after = after ≡ d.list
Kept good d filed (publishes f) after = PublishKept d.auction filed f × (after ≡ d.list)
Kept good d filed moves after = after ≡ d.list
Kept good d filed (crosses o) after = CrossKept good d.auction filed o d.list after

-- wherever in a run a call stands
abbrev pub EveryCallKept : (OrderTerms → OrderTerms → Bool) → State → List Asked → Type 0
EveryCallKept good d ss =
    (front rest : List Asked) (s : Asked) → ss ≡ front ++ s ∷ rest
    → Kept good (after good d front) s.filed (step good (after good d front) s).answer (step good (after good d front) s).next.list
