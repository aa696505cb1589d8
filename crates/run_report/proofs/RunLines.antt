-- A run accepts at most one cross, and no later call writes the allotment list: the list at the end has the allotments of
-- the cross.
use Rattle.std.proofs.Common.{◌≡◌, ℕ, ◌+◌, Bool, true, false, cond, not, eqb, List, [], ◌∷◌, ◌++◌, length, drop, sym, refl, ap, ◌∙◌}
use Rattle.std.proofs.lemmas.Bool.{cond_both, cond-false}
use Rattle.market.specs.Calls.{Call, enter, cancel, quote, publish, lock, shut, cross}
use Rattle.market.specs.declared.order.OrderTerms.{OrderTerms}
use Rattle.cross.specs.declared.allotment.Allotment.{Allotment}
use Rattle.auction.specs.Refusing.{causes, first_cause, first_of, outside_values}
use Rattle.auction.specs.Stages.{has_call, in_crossed}
use Rattle.replay.specs.Performing.{Done, State, accepted_done, performed, refused_done}
use Rattle.replay.specs.Runs.{Asked, after, answers, step}
use Rattle.run_report.specs.Answers.{all_lines, answer_lines, run_lines}

-- ---- a crossed auction refuses every call

lacks_all : (c : Call) → has_call c in_crossed ≡ false
lacks_all (enter o) = refl
lacks_all (cancel e n) = refl
lacks_all (quote b o) = refl
lacks_all publish = refl
lacks_all lock = refl
lacks_all shut = refl
lacks_all cross = refl

some_cause : (b has : Bool) (rest : List (ℕ × Bool)) → has ≡ false → eqb (first_of ((5, b) ∷ (13, not has) ∷ rest)) 0 ≡ false
some_cause true has rest e = refl
some_cause false has rest e = ap (λ h. eqb (cond (not h) 13 (first_of rest)) 0) e

module _ (good : OrderTerms → OrderTerms → Bool) where
  refuses_all : (s : State) (filed : List OrderTerms) (t : ℕ) (c : Call) → s.auction.stage ≡ in_crossed → (performed good s filed t c).next ≡ s
  refuses_all s filed t c e =
      let some = some_cause (outside_values c) (has_call c s.auction.stage) (drop 2 (causes s.auction filed (length s.list) t c)) (ap (has_call c) e ∙ lacks_all c) in
      ap (λ (x : Done). x.next)
      (cond-false (eqb (first_cause s.auction filed (length s.list) t c) 0) (accepted_done good s filed t c) (refused_done good s filed t c) some)

  step_crossed : (s : State) (c : Asked) → s.auction.stage ≡ in_crossed → (step good s c).next ≡ s
  unfolding step
  step_crossed s c e = refuses_all s c.filed c.time c.call e

  list_stays : (s : State) (cs : List Asked) → s.auction.stage ≡ in_crossed → (after good s cs).list ≡ s.list
  list_stays s [] e = refl
  list_stays s (c ∷ cs) e = ap (λ (x : State). (after good x cs).list) (step_crossed s c e) ∙ list_stays s cs e

  -- ---- only an accepted cross tells of the list

  module _ (s : State) (filed : List OrderTerms) (t : ℕ) (last : List Allotment) (place : ℕ) where
    abbrev ToldAlike : Done → Type 0
    ToldAlike x =
        (x.next.auction.stage ≡ in_crossed → last ≡ x.next.list)
        → answer_lines x.next.list place x.answer ≡ answer_lines last place x.answer

    accepted_alike : (c : Call) → ToldAlike (accepted_done good s filed t c)
    accepted_alike (enter o) h = refl
    accepted_alike (cancel e n) h = refl
    accepted_alike (quote b o) h = refl
    accepted_alike publish h = refl
    accepted_alike lock h = refl
    accepted_alike shut h = refl
    accepted_alike cross h = ap (λ (l : List Allotment). answer_lines l place (accepted_done good s filed t cross).answer) (sym (h refl))

    performed_alike : (c : Call) → ToldAlike (performed good s filed t c)
    performed_alike c =
        cond_both (eqb (first_cause s.auction filed (length s.list) t c) 0) (accepted_done good s filed t c) (refused_done good s filed t c) ToldAlike
        (λ _. accepted_alike c)
        (λ _ h. refl)

  step_alike : (s : State) (c : Asked) (last : List Allotment) (place : ℕ) → ((step good s c).next.auction.stage ≡ in_crossed → last ≡ (step good s c).next.list)
      → answer_lines (step good s c).next.list place (step good s c).answer ≡ answer_lines last place (step good s c).answer
  unfolding step
  step_alike s c last place h = performed_alike s c.filed c.time last place c.call h

  pub told_by_last_list : (place : ℕ) (s : State) (cs : List Asked) → run_lines good place s cs ≡ all_lines (after good s cs).list place (answers good s cs)
  told_by_last_list place s [] = refl
  told_by_last_list place s (c ∷ cs) =
      let next = (step good s c).next in
      let last = (after good next cs).list in
      let this = step_alike s c last place (list_stays next cs) in
      let more = told_by_last_list (place + 1) next cs in
      λ i. this i ++ more i
