-- The bodies of an accepted file are handed out as what they were found to be.
use Rattle.std.proofs.Common.{◌≡◌, refl, ap, ◌∙◌}
use Rattle.std.proofs.lemmas.Result.{MatchResult-at_ok}
use Rattle.market.specs.RankingNames.{ranking_number}
use Rattle.session.specs.declared.body.BodyKind.TheVariants.{Resting, Events}
use Rattle.session.specs.Fields.{byte, four}
use Rattle.session.proofs.HeadingRecord.{ranking_named}
use Rattle.session.proofs.Readings.{accepts, body_clean, body_fits, heading_lawful}
use Rattle.session.proofs.file.reading.session_of.Goals as goal

pub unwrap-requires : goal.unwrap-requires
unwrap-requires c =
    let lawful = heading_lawful c.args.file.listed.bytes.now c.bytes-heading.result.now c.requires (c.bytes-heading.ensures ∙ c.body.ensures.bytes) in
    ranking_named _ c.try_from.result c.try_from.ensures ∙ lawful.1

pub invariant_of-result-2 : goal.invariant_of-result-2
invariant_of-result-2 c =
    let file = c.args.file.listed.bytes.now in
    let bs = c.bytes-resting.result.now in
    let is = c.bytes-resting.ensures ∙ c.body-2.ensures.bytes in
    record {
      fitting = body_fits file Resting bs c.requires is;
      clean = body_clean file Resting bs c.requires is;
    }

pub invariant_of-result-3 : goal.invariant_of-result-3
invariant_of-result-3 c =
    let file = c.args.file.listed.bytes.now in
    let bs = c.bytes-events.result.now in
    let is = c.bytes-events.ensures ∙ c.body-3.ensures.bytes in
    record {
      fitting = body_fits file Events bs c.requires is;
      clean = body_clean file Events bs c.requires is;
    }

pub returns : goal.returns
returns c =
    let heading = c.bytes-heading.ensures ∙ c.body.ensures.bytes in
    accepts c.args.file.listed.bytes.now _ c.requires refl
    (c.four_at.ensures ∙ ap (λ bs. four bs 0) heading)
    (MatchResult-at_ok (λ name. ranking_number name ≡ byte c.bytes-heading.result.now 4) _ _ c.unwrap.ensures c.try_from.ensures ∙ ap (λ bs. byte bs 4) heading)
    (c.bytes-resting.ensures ∙ c.body-2.ensures.bytes)
    (c.bytes-events.ensures ∙ c.body-3.ensures.bytes)
    (c.bytes.ensures ∙ c.body-4.ensures.bytes)
