-- What a reading hands out is what the bytes say: the step from the layout theorem to the reader's promise.
use Rattle.std.proofs.Common.{◌≡◌, ℕ, ◌+◌, ◌*◌, true, false, cond, List, [], length, take, drop, Some, None, sym, ap, ◌∙◌, subst, arith}
use Rattle.std.proofs.lemmas.Bool.{eqb-true}
use Rattle.market.specs.declared.refusal.Refusal.{Refusal}
use Rattle.market.specs.Causes.{cause}
use Rattle.market.specs.RankingNames.{ranking_number}
use Rattle.market.specs.Prices.{LawfulPrice}
use Rattle.session.specs.declared.body.BodyKind.{BodyKind}
use Rattle.session.specs.declared.body.BodyKind.TheVariants.{Heading, Resting, Events, Note}
use Rattle.session.specs.declared.file.SessionFile.{SessionFile}
use Rattle.session.specs.declared.field.Values.TheVariants.{Ranking}
use Rattle.session.specs.Fields.{admits, byte, four, two}
use Rattle.session.specs.Contents.{body, mask, present, rank, start}
use Rattle.session.specs.Faults.{bad_field, fault, fits}
use Rattle.session.specs.Layout.{KeepsLayout, session_of}
use Rattle.session.specs.Reading.{Accepts, Refuses, handed, if_present}
use Rattle.session.specs.Records.{events_in, orders_in}
use Rattle.session.proofs.Acceptance.{accepted}
use Rattle.session.proofs.Bodies.{length_body}
use Rattle.session.proofs.FirstCauses.{first_field, first_length}
use Rattle.session.proofs.HeadingRecord.{heading_kept}
use Rattle.session.proofs.LayoutTheorem.{layout_kept, layout_read, same_session}

-- each body of an accepted file has a length of its kind, and no bad field
pub body_fits : (file : List ℕ) (kind : BodyKind) (bs : List ℕ) → fault file ≡ None → bs ≡ body file kind → fits kind (length bs) ≡ true
body_fits file kind bs e q =
    let a = accepted file e in
    ap (λ xs. fits kind (length xs)) q ∙ (ap (fits kind) (length_body file kind (omega (arith, a.parts.filled))) ∙ a.fitting kind)

pub body_clean : (file : List ℕ) (kind : BodyKind) (bs : List ℕ) → fault file ≡ None → bs ≡ body file kind → bad_field kind bs ≡ None
body_clean file kind bs e q = ap (bad_field kind) q ∙ (accepted file e).clean kind

-- the heading names a price and a ranking
pub heading_lawful : (file bs : List ℕ) → fault file ≡ None → bs ≡ body file Heading → LawfulPrice (four bs 0) × (admits Ranking (byte bs 4) ≡ true)
heading_lawful file bs e q =
    let kept = heading_kept bs (eqb-true (length bs) 8 (body_fits file Heading bs e q)) (body_clean file Heading bs e q) in
    (kept.1, kept.2)

if_present_same : {X : Type 0} (said : List ℕ → X) (kind : BodyKind) (file f bs : List ℕ) → f ≡ file → bs ≡ body file kind
    → if_present f kind (said bs) ≡ cond (present file kind) (Some (said (body file kind))) None
if_present_same said kind file f bs p q = ap (λ xs. if_present xs kind (said bs)) p ∙ ap (λ xs. if_present file kind (said xs)) q

-- the mask lacks the body: its length is 0
absent_body : (file : List ℕ) (kind : BodyKind) → present file kind ≡ false → body file kind ≡ []
absent_body file kind e = ap (λ b. take (cond b (two file (1 + 2 * rank (mask file) kind)) 0) (drop (start file kind) file)) e

pub accepts : (file : List ℕ) (f : SessionFile) → fault file ≡ None → f.file.now ≡ file
    → f.heading.last_sale.cents ≡ four (body file Heading) 0
    → ranking_number f.heading.ranking ≡ byte (body file Heading) 4
    → f.resting.records.now ≡ body file Resting → f.events.records.now ≡ body file Events → f.note.now ≡ body file Note
    → Accepts file f
accepts file f e p l k r v n =
    let same : handed f ≡ session_of file = same_session (handed f) (session_of file) l k
    (if_present_same orders_in Resting file f.file.now f.resting.records.now p r)
    (if_present_same events_in Events file f.file.now f.events.records.now p v)
    (if_present_same (λ bs. bs) Note file f.file.now f.note.now p n) in
    record {
      same = p;
      no_cause = e;
      keeps = subst (KeepsLayout file) (sym same) (layout_kept file e);
      only = λ s layout. sym (layout_read file s layout).1 ∙ sym same;
      bodies = λ s layout.
          let p = (layout_read file s layout).2 in
          (sym (p Heading), sym (p Resting), sym (p Events), sym (p Note));
      no_orders = λ absent. r ∙ absent_body file Resting absent;
      no_events = λ absent. v ∙ absent_body file Events absent;
      no_note = λ absent. n ∙ absent_body file Note absent;
    }

pub refuses : (file : List ℕ) (e : Refusal) → fault file ≡ Some (cause e) → Refuses file e
refuses file e because = record {
  because = because;
  first_length = λ b is. first_length file b (because ∙ ap Some is);
  first_field = λ b is. first_field file b (because ∙ ap Some is);
  breaks = λ s layout.
      let none : fault file ≡ None = (layout_read file s layout).0 in
      let z : ◌≡◌ {A = ℕ} 0 1 = cc in
      absurd (omega arith);
}
