-- What a mask of bodies says, where it is at most 15: tests that antt computes at each of the 16 masks, and a mask
-- that is made of the presence of each body.
use Rattle.std.proofs.Common.{◌≡◌, ℕ, ◌+◌, ◌*◌, ◌<◌, ◌≤◌, Bool, true, false, cond, not, ◌||◌, eqb, ltb, refl, ap, arith}
use Rattle.std.specs.Int.Count.{ones, ones_in}
use Rattle.std.proofs.lemmas.Bool.Decides.{nat_tests}
use Rattle.session.specs.declared.body.BodyKind.{BodyKind}
use Rattle.session.specs.declared.body.BodyKind.TheVariants.{Heading, Resting, Events, Note}
use Rattle.session.specs.Fields.{has}
use Rattle.session.specs.Contents.{bit, rank}
use Rattle.session.proofs.Sixteen.{at_each, every}

-- ---- a body that is present comes after fewer bodies than there are

ranked : BodyKind → ℕ → Bool
ranked kind m = not (has m (bit kind)) || ltb (rank m kind) (ones m)

each_ranked : (kind : BodyKind) → every (ranked kind) 16 ≡ true
unfolding every ranked ones ones_in
each_ranked Heading = refl
each_ranked Resting = refl
each_ranked Events = refl
each_ranked Note = refl

pub rank_below : (m : ℕ) (kind : BodyKind) → m ≤ 15 → has m (bit kind) ≡ true → rank m kind < ones m
unfolding ranked
rank_below m kind h e =
    let t : ranked kind m ≡ true = at_each (ranked kind) (each_ranked kind) m h in
    grind (arith, nat_tests)

-- ---- a mask with the bit of the heading, by the presence of each other body

abbrev pub mask_of : (resting events note : Bool) → ℕ
mask_of r e n = 1 + cond r 2 0 + cond e 4 0 + cond n 8 0

made : ℕ → Bool
made m = not (has m 1) || eqb m (mask_of (has m 2) (has m 4) (has m 8))

each_made : every made 16 ≡ true
unfolding every made
each_made = refl

pub mask_made : (m : ℕ) → m ≤ 15 → has m 1 ≡ true → m ≡ mask_of (has m 2) (has m 4) (has m 8)
unfolding made
mask_made m h e =
    let t : made m ≡ true = at_each made each_made m h in
    grind (arith, nat_tests)

-- how many bytes the contents have
abbrev pub table_size : (resting events note : Bool) → ℕ
table_size r e n = 3 + cond r 2 0 + cond e 2 0 + cond n 2 0

-- where the length of a body stands in the contents
abbrev place : ℕ → BodyKind → ℕ
place m kind = 1 + 2 * rank m kind

abbrev Marks : Type 0
Marks = Bool × Bool × Bool × Bool × ℕ × ℕ × ℕ × ℕ × ℕ

-- all that the contents take from a mask, as one value
abbrev marks : ℕ → Marks
marks m =
    (has m 1, has m 2, has m 4, has m 8, 1 + 2 * ones m, place m Heading, place m Resting, place m Events, place m Note)

abbrev marks_of : (resting events note : Bool) → Marks
marks_of r e n = (true, r, e, n, table_size r e n, 1, 3, 3 + cond r 2 0, 3 + cond r 2 0 + cond e 2 0)

marks_are : (r e n : Bool) → marks (mask_of r e n) ≡ marks_of r e n
unfolding ones ones_in
marks_are true true true = refl
marks_are true true false = refl
marks_are true false true = refl
marks_are true false false = refl
marks_are false true true = refl
marks_are false true false = refl
marks_are false false true = refl
marks_are false false false = refl

mask_small : (r e n : Bool) → mask_of r e n ≤ 15
mask_small r e n = grind arith

-- the same, each by its name
pub record Marked (m : ℕ) (r e n : Bool) : Type 0 where
  pub small : m ≤ 15
  pub headed : has m 1 ≡ true
  pub rested : has m 2 ≡ r
  pub timed : has m 4 ≡ e
  pub noted : has m 8 ≡ n
  pub sized : 1 + 2 * ones m ≡ table_size r e n
  pub heading_at : 1 + 2 * rank m Heading ≡ 1
  pub resting_at : 1 + 2 * rank m Resting ≡ 3
  pub events_at : 1 + 2 * rank m Events ≡ 3 + cond r 2 0
  pub note_at : 1 + 2 * rank m Note ≡ 3 + cond r 2 0 + cond e 2 0

pub marked : (m : ℕ) (r e n : Bool) → m ≡ mask_of r e n → Marked m r e n
marked m r e n q =
    let p : marks m ≡ marks_of r e n = rw q (marks_are r e n) in
    record {
      small = rw q (mask_small r e n);
      headed = ap (λ t. t.0) p;
      rested = ap (λ t. t.1) p;
      timed = ap (λ t. t.2) p;
      noted = ap (λ t. t.3) p;
      sized = ap (λ t. t.4) p;
      heading_at = ap (λ t. t.5) p;
      resting_at = ap (λ t. t.6) p;
      events_at = ap (λ t. t.7) p;
      note_at = ap (λ t. t.8) p;
    }
