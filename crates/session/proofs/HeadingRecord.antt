-- The heading: eight bytes with no bad field are a heading, and a heading has no bad field and reads as itself.
use Rattle.std.proofs.Common.{◌≡◌, ◌∙◌, ap, ℕ, ◌<◌, Bool, true, false, MatchResult, List, length, None, Result, Ok, Err, refl, arith}
use Rattle.std.proofs.lemmas.Bool.{eqb-true}
use Rattle.std.proofs.lemmas.Bool.Decides.{nat_tests}
use Rattle.std.specs.Result.{OkIff, is_ok}
use Rattle.market.specs.RankingNames.{NamesRanking}
use Rattle.market.specs.declared.ranking.RankingName.{RankingName}
use Rattle.market.specs.declared.ranking.RankingName.TheVariants.{Display, Shares}
use Rattle.market.specs.declared.refusal.Refusal.{Refusal}
use Rattle.market.specs.Prices.{lawful_price, LawfulPrice}
use Rattle.session.specs.declared.body.BodyKind.TheVariants.{Heading}
use Rattle.session.specs.declared.field.Values.TheVariants.{Ranking}
use Rattle.session.specs.Fields.{byte, four, admits}
use Rattle.session.specs.Records.{heading_numbers, heading_fields}
use Rattle.session.specs.Faults.{bad_field}
use Rattle.session.specs.Layout.{HeadingBody}
use Rattle.session.proofs.FieldFacts.{Good, good, none_bad, written, stands}

-- what the test of a price says
price_lawful : (n : ℕ) → lawful_price n ≡ true → LawfulPrice n
price_lawful n h = (grind (arith, nat_tests), grind (arith, nat_tests))

price_tested : (n : ℕ) → LawfulPrice n → lawful_price n ≡ true
price_tested n h = grind (arith, nat_tests)

pub heading_kept : (bs : List ℕ) → length bs ≡ 8 → bad_field Heading bs ≡ None
    → HeadingBody (four bs 0) (byte bs 4) bs
heading_kept bs l e =
    let g = good heading_fields bs 0 e in
    let zeros = g.1.1 in
    let a = eqb-true (byte bs 5) 0 zeros.0 in
    let b = eqb-true (byte bs 6) 0 zeros.1.0 in
    let c = eqb-true (byte bs 7) 0 zeros.1.1.0 in
    let w = written (heading_numbers (four bs 0) (byte bs 4)) bs 0 (refl, (refl, (a, (b, (c, tt))))) in
    ((l, w), price_lawful (four bs 0) g.0, g.1.0)

pub heading_read : (l r : ℕ) (bs : List ℕ) → HeadingBody l r bs
    → (length bs ≡ 8) × (bad_field Heading bs ≡ None) × (four bs 0 ≡ l) × (byte bs 4 ≡ r)
heading_read l r bs h =
    let w = stands (heading_numbers l r) bs 0 h.0.1 in
    let zeros = w.1.1 in
    let price : lawful_price (four bs 0) ≡ true = rw w.0 (price_tested l h.1) in
    let ranking : admits Ranking (byte bs 4) ≡ true = rw w.1.0 h.2 in
    let g : Good heading_fields bs 0 0 =
    (price, (ranking, (rw zeros.0, (rw zeros.1.0, (rw zeros.1.1.0, tt))))) in
    (h.0.0, none_bad heading_fields bs 0 g, w.0, w.1.0)

-- a number of one byte names a ranking just where the field of the ranking may hold it
pub ranking_named : (n : ℕ) (r : Result RankingName Refusal) → NamesRanking n r → is_ok r ≡ admits Ranking n
ranking_named n (Ok Display) h = rw (← h) refl
ranking_named n (Ok Shares) h = rw (← h) refl
ranking_named n (Err e) h =
    let one = h.1 Display in
    let two = h.1 Shares in
    grind (arith, nat_tests)

-- the same of a number that may be more than a byte's
pub ranking_admitted : {E : Type 0} (n : ℕ) (r : Result ℕ E) (b : Bool) (P : ℕ → Type 0) → OkIff r (n < 256) n
    → MatchResult r P (λ _. b ≡ false)
    → ((x : ℕ) → P x → b ≡ admits Ranking x)
    → b ≡ admits Ranking n
ranking_admitted n (Ok x) b P is m here = here x m ∙ ap (admits Ranking) is.1
ranking_admitted n (Err e) b P big m here = grind (arith, nat_tests)
