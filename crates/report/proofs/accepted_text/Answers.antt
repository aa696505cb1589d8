-- What is counted, priced and written is what the session says.
use Rattle.std.proofs.Common.{◌≡◌, ℕ, ◌≤◌, Bool, true, false, cond, List, [], ◌++◌, length, take, Some, None, refl, ap, ◌∙◌, arith}
use Rattle.std.proofs.lemmas.List.{append-nil, drop_all, length-take}
use Rattle.std.specs.List.{flat_map}
use Rattle.market.specs.declared.order.OrderTerms.{OrderTerms}
use Rattle.market.specs.RankingNames.{ranking_number}
use Rattle.market.specs.Ranges.{collar_highest, collar_lowest, twice_middle}
use Rattle.cross.specs.declared.allotment.Allotment.{Allotment}
use Rattle.cross.specs.Allotments.{allotments, allotted}
use Rattle.cross.specs.Clearing.{clearing_price}
use Rattle.cross.specs.Crossing.{clearing_fills}
use Rattle.cross.specs.Depth.{executed}
use Rattle.session.specs.Contents.{present}
use Rattle.session.specs.Reading.{handed}
use Rattle.session.specs.Records.{events_in, orders_in}
use Rattle.session.specs.declared.body.BodyKind.TheVariants.{Resting, Events, Note}
use Rattle.report.specs.Text.{count, figures_text, fill_line, first_line, or_empty, ranking_of}
use Rattle.reporting.proofs.Telling.{listed}
use Rattle.report.proofs.Lines.{figures_then}
use Rattle.report.proofs.accepted_text.Goals as goal

-- an absent body counts as empty
counted : {X : Type 0} (b : Bool) (xs : List X) → (b ≡ false → xs ≡ []) → length xs ≡ count (cond b (Some xs) None)
counted true xs h = refl
counted false xs h = ap length (h refl)

same_text : (r r' e e' n n' l k lo lo' hi hi' p p' x x' : ℕ) (f f' : List ℕ) → r ≡ r' → e ≡ e' → n ≡ n' → lo ≡ lo' → hi ≡ hi' → p ≡ p' → x ≡ x' → f ≡ f'
    → first_line ++ figures_text r e n l k lo hi p x f ≡ first_line ++ figures_text r' e' n' l k lo' hi' p' x' f'
same_text r r' e e' n n' l k lo lo' hi hi' p p' x x' f f' a b c d g h j m =
    λ i. first_line ++ figures_text (a i) (b i) (c i) l k (d i) (g i) (h i) (j i) (m i)

-- a list cut to as many records as there are orders has those of the orders
whole : (os : List OrderTerms) (fill : ℕ → ℕ) (list before : List Allotment) (n : ℕ) → n ≡ length os → list ≡ allotted os fill (take n before)
    → list ≡ allotments os fill
whole os fill list before n e w =
    let short : length (take n before) ≤ length os = omega (arith, length-take n before) in
    w ∙ (ap (λ rest. allotments os fill ++ rest) (drop_all (length os) (take n before) short) ∙ append-nil (allotments os fill))

pub returns : goal.returns
returns c =
    let f = c.args.session.now in
    let file = f.file.now in
    let orders = orders_in f.resting.records.now in
    let events = events_in f.events.records.now in
    let l = f.heading.last_sale.cents in
    let k = ranking_number f.heading.ranking in
    let t = twice_middle l l in
    let no_orders : present file Resting ≡ false → orders ≡ [] = λ absent. ap orders_in (c.requires.no_orders absent) in
    let no_events : present file Events ≡ false → events ≡ [] = λ absent. ap events_in (c.requires.no_events absent) in
    let all = or_empty (handed f).resting in
    let same : orders ≡ all = listed (present file Resting) orders no_orders in
    let got = c.of-figures.ensures in
    let r = c.of-figures.result in
    let lo = collar_lowest l l in
    let hi = collar_highest l l in
    let price : r.crossing.price.cents ≡ clearing_price lo hi t all
    = got.crossed.at
    ∙ (ap (λ m. clearing_price m r.collar.highest.cents t orders) got.low ∙ (ap (λ m. clearing_price lo m t orders) got.high ∙ ap (clearing_price lo hi t) same)) in
    let shares : r.crossing.executed ≡ executed lo hi all (clearing_price lo hi t all)
    = got.crossed.executes
    ∙ (ap (λ m. executed m r.collar.highest.cents orders (clearing_price m r.collar.highest.cents t orders)) got.low
    ∙ (ap (λ m. executed lo m orders (clearing_price lo m t orders)) got.high ∙ ap (λ os. executed lo hi os (clearing_price lo hi t os)) same)) in
    let lines : (lo hi : ℕ) → List OrderTerms → List ℕ = λ lo hi os. flat_map fill_line (allotments os (clearing_fills lo hi (ranking_of k) os t)) in
    let list = c.of-figures.new.list in
    let fills : flat_map fill_line list ≡ lines lo hi all
    = ap (flat_map fill_line) (whole orders (clearing_fills r.collar.lowest.cents r.collar.highest.cents (ranking_of k) orders t) list _ c.count.result c.count.ensures got.crossed.fills)
    ∙ (ap (λ m. lines m r.collar.highest.cents orders) got.low ∙ (ap (λ m. lines lo m orders) got.high ∙ ap (lines lo hi) same)) in
    c.in_ok-push_fills.ensures
    ∙ (ap (λ bs. bs ++ flat_map fill_line list) c.in_ok-text.ensures
    ∙ (figures_then (length orders) (length events) (length f.note.now) l k r.collar.lowest.cents r.collar.highest.cents r.crossing.price.cents r.crossing.executed (flat_map fill_line list)
    ∙ same_text _ _ _ _ _ _ l k _ _ _ _ _ _ _ _ _ _
    (counted (present file Resting) orders no_orders)
    (counted (present file Events) events no_events)
    (counted (present file Note) f.note.now c.requires.no_note)
    got.low
    got.high
    price
    shares
    fills))
