-- The number by which a session names each ranking.
use Rattle.std.specs.Prelude.{◌≡◌, ℕ, Result, MatchResult}
use Rattle.market.specs.Causes.{at, cause}
use Rattle.market.specs.declared.ranking.RankingName.{RankingName}
use Rattle.market.specs.declared.ranking.RankingName.TheVariants.{Display, Shares}
use Rattle.market.specs.declared.refusal.Refusal.{Refusal}

abbrev pub ranking_number : RankingName → ℕ
ranking_number Display = 1
ranking_number Shares = 2

-- the ranking of a number, or the refusal of a value where the number names none
abbrev pub NamesRanking : ℕ → Result RankingName Refusal → Type 0
NamesRanking n r =
    MatchResult r (λ name. ranking_number name ≡ n) (λ e. (cause e ≡ at 5 0 0) × ((name : RankingName) → ranking_number name ≡ n → ⊥))
