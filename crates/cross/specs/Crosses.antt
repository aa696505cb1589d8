-- Crosses of a list of orders in a range, and when one is best and fair.
use Rattle.std.specs.Prelude.{◌≡◌, ℕ, ◌<◌, ◌≤◌, Bool, true, false, ◌⊎◌, List, length}
use Rattle.market.specs.declared.order.Side.TheVariants.{Buy, Sell}
use Rattle.market.specs.declared.order.OrderTerms.{OrderTerms}
use Rattle.cross.specs.Clearing.{distance}
use Rattle.cross.specs.Fills.{ahead, at_place, better_priced, filled, willing}
use Rattle.cross.specs.Rankings.{same_side}

module _ (lowest highest : ℕ) (os : List OrderTerms) where
  -- A cross: a price of the range and a fill for each place, up to the order's shares, none to the unwilling, with as
  -- many shares bought as sold.
  pub record IsCross (p : ℕ) (fill : ℕ → ℕ) : Type 0 where
    pub low : lowest ≤ p
    pub high : p ≤ highest
    pub within : (i : ℕ) → i < length os → fill i ≤ (at_place os i).shares
    pub unwilling : (i : ℕ) → i < length os → willing lowest highest p (at_place os i) ≡ false → fill i ≡ 0
    pub balanced : filled Buy os fill ≡ filled Sell os fill

  -- the shares that it executes
  abbrev pub executes : (ℕ → ℕ) → ℕ
  executes fill = filled Buy os fill

  -- it leaves no better-priced share unfilled
  abbrev pub LeavesNone : (p : ℕ) → (ℕ → ℕ) → Type 0
  LeavesNone p fill = (i : ℕ) → i < length os → better_priced lowest highest p (at_place os i) ≡ true → fill i ≡ (at_place os i).shares

  -- No rival does better: it executes at least as many shares as every cross, leaves no better-priced share unfilled,
  -- and every cross that executes as many and leaves none either stands at the same price, or farther from the
  -- tie-breaker, or as far and higher.
  pub record Best (twice p : ℕ) (fill : ℕ → ℕ) : Type 0 where
    pub cross : IsCross p fill
    pub most : (q : ℕ) (rival : ℕ → ℕ) → IsCross q rival → executes rival ≤ executes fill
    pub leaves_none : LeavesNone p fill
    pub nearest : (q : ℕ) (rival : ℕ → ℕ) → IsCross q rival → executes rival ≡ executes fill → LeavesNone q rival
        → (q ≡ p) ⊎ ((distance twice p < distance twice q) ⊎ ((distance twice q ≡ distance twice p) × (p < q)))

  -- Of two orders of one side, both willing, the one behind has a share only when the one ahead is filled whole.
  abbrev pub Fair : (good : OrderTerms → OrderTerms → Bool) → (p : ℕ) → (ℕ → ℕ) → Type 0
  Fair good p fill =
      (i j : ℕ) → i < length os → j < length os
      → same_side (at_place os i).side (at_place os j).side ≡ true
      → willing lowest highest p (at_place os i) ≡ true
      → willing lowest highest p (at_place os j) ≡ true
      → ahead good os i j ≡ true
      → 0 < fill j
      → fill i ≡ (at_place os i).shares
