-- What reading a file promises.
use Rattle.std.specs.Prelude.{◌≡◌, ℕ, Bool, false, cond, List, [], Some, None, Option, Result, MatchResult}
use Rattle.market.specs.declared.refusal.Refusal.{Refusal}
use Rattle.market.specs.Causes.{at, cause}
use Rattle.market.specs.RankingNames.{ranking_number}
use Rattle.session.specs.declared.body.BodyKind.{BodyKind}
use Rattle.session.specs.declared.body.BodyKind.TheVariants.{Heading, Resting, Events, Note}
use Rattle.session.specs.declared.file.SessionFile.{SessionFile}
use Rattle.session.specs.Contents.{body, present}
use Rattle.session.specs.Faults.{fault}
use Rattle.session.specs.FirstCauses.{FirstField, FirstLength}
use Rattle.session.specs.Layout.{KeepsLayout, Session}
use Rattle.session.specs.Records.{events_in, orders_in}

-- what is there only where the file has the body
abbrev pub if_present : {X : Type 0} → List ℕ → BodyKind → X → Option X
if_present file kind x = cond (present file kind) (Some x) None

-- the session that is handed out
abbrev pub handed : SessionFile → Session
handed f = record {
  last_sale = f.heading.last_sale.cents;
  ranking = ranking_number f.heading.ranking;
  resting = if_present f.file.now Resting (orders_in f.resting.records.now);
  events = if_present f.file.now Events (events_in f.events.records.now);
  note = if_present f.file.now Note f.note.now;
}

-- the file keeps the layout of the session that is handed out, and of no other; the layout's bodies are those that
-- the contents tell; an absent body counts as empty
pub record Accepts (file : List ℕ) (f : SessionFile) : Type 0 where
  pub same : f.file.now ≡ file
  pub no_cause : fault file ≡ None
  pub keeps : KeepsLayout file (handed f)
  pub only : (s : Session) → KeepsLayout file s → s ≡ handed f
  pub bodies : (s : Session) (k : KeepsLayout file s)
      → (k.heading ≡ body file Heading)
      × (k.resting ≡ body file Resting)
      × (k.events ≡ body file Events)
      × (k.note ≡ body file Note)
  pub no_orders : present file Resting ≡ false → f.resting.records.now ≡ []
  pub no_events : present file Events ≡ false → f.events.records.now ≡ []
  pub no_note : present file Note ≡ false → f.note.now ≡ []

-- the file keeps the layout of no session; the cause is the defined one, and in layers 2 and 3 it is the first of its
-- kind in the file
pub record Refuses (file : List ℕ) (e : Refusal) : Type 0 where
  pub because : fault file ≡ Some (cause e)
  pub first_length : (b : ℕ) → cause e ≡ at 4 2 b → FirstLength file b
  pub first_field : (b : ℕ) → cause e ≡ at 5 3 b → FirstField file b
  pub breaks : (s : Session) → KeepsLayout file s → ⊥

-- a session is handed out, or else a refusal and nothing of the file
abbrev pub Reads : List ℕ → Result SessionFile Refusal → Type 0
Reads file r = MatchResult r (Accepts file) (Refuses file)

-- an accepted file has a body of this kind
abbrev pub holds : SessionFile → BodyKind → Bool
holds f kind = present f.file.now kind
