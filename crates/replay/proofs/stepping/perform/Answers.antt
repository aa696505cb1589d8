-- Each call on the auction that is held.
use Rattle.std.proofs.Common.{List}
use Rattle.market.specs.declared.order.OrderTerms.{OrderTerms}
use Rattle.replay.proofs.HeldCalls.{as_held}
use Rattle.replay.proofs.stepping.perform.Goals as goal

pub returns-in-Open-Enter : goal.returns-in-Open-Enter
returns-in-Open-Enter g c =
    let filed : List OrderTerms = g.F.Book.orders c.args.step.now.filed in
    as_held g.R.Ranking.good filed c.args.step.now.time _ _ c.in-Open-Enter.is-0 c.in-Open-Enter.is-1 (c.enter_order.ensures filed g.R.Ranking.good c.args.list.now)

pub returns-in-Open-Cancel : goal.returns-in-Open-Cancel
returns-in-Open-Cancel g c =
    let filed : List OrderTerms = g.F.Book.orders c.args.step.now.filed in
    as_held g.R.Ranking.good filed c.args.step.now.time _ _ c.in-Open-Cancel.is-0 c.in-Open-Cancel.is-1 (c.cancel_shares.ensures filed g.R.Ranking.good c.args.list.now)

pub returns-in-Open-Quote : goal.returns-in-Open-Quote
returns-in-Open-Quote g c =
    let filed : List OrderTerms = g.F.Book.orders c.args.step.now.filed in
    as_held g.R.Ranking.good filed c.args.step.now.time _ _ c.in-Open-Quote.is-0 c.in-Open-Quote.is-1 (c.set_quote.ensures filed g.R.Ranking.good c.args.list.now)

pub returns-in-Open-Lock : goal.returns-in-Open-Lock
returns-in-Open-Lock g c =
    let filed : List OrderTerms = g.F.Book.orders c.args.step.now.filed in
    as_held g.R.Ranking.good filed c.args.step.now.time _ _ c.in-Open-Lock.is-0 c.in-Open-Lock.is-1 (c.lock_open.ensures filed g.R.Ranking.good c.args.list.now)

pub returns-in-Locked-Enter : goal.returns-in-Locked-Enter
returns-in-Locked-Enter g c =
    let filed : List OrderTerms = g.F.Book.orders c.args.step.now.filed in
    as_held g.R.Ranking.good filed c.args.step.now.time _ _ c.in-Locked-Enter.is-0 c.in-Locked-Enter.is-1 (c.enter_order-in-Locked-Enter.ensures filed g.R.Ranking.good c.args.list.now)

pub returns-in-Locked-Quote : goal.returns-in-Locked-Quote
returns-in-Locked-Quote g c =
    let filed : List OrderTerms = g.F.Book.orders c.args.step.now.filed in
    as_held g.R.Ranking.good filed c.args.step.now.time _ _ c.in-Locked-Quote.is-0 c.in-Locked-Quote.is-1 (c.set_quote-in-Locked-Quote.ensures filed g.R.Ranking.good c.args.list.now)

pub returns-in-Locked-Publish : goal.returns-in-Locked-Publish
returns-in-Locked-Publish g c =
    let filed : List OrderTerms = g.F.Book.orders c.args.step.now.filed in
    as_held g.R.Ranking.good filed c.args.step.now.time _ _ c.in-Locked-Publish.is-0 c.in-Locked-Publish.is-1 (c.publish_figures.ensures g.R.Ranking.good c.args.list.now)

pub returns-in-Locked-Shut : goal.returns-in-Locked-Shut
returns-in-Locked-Shut g c =
    let filed : List OrderTerms = g.F.Book.orders c.args.step.now.filed in
    as_held g.R.Ranking.good filed c.args.step.now.time _ _ c.in-Locked-Shut.is-0 c.in-Locked-Shut.is-1 (c.shut_locked.ensures filed g.R.Ranking.good c.args.list.now)

pub returns-in-Shut-Quote : goal.returns-in-Shut-Quote
returns-in-Shut-Quote g c =
    let filed : List OrderTerms = g.F.Book.orders c.args.step.now.filed in
    as_held g.R.Ranking.good filed c.args.step.now.time _ _ c.in-Shut-Quote.is-0 c.in-Shut-Quote.is-1 (c.set_quote-in-Shut-Quote.ensures filed g.R.Ranking.good c.args.list.now)

pub returns-in-Shut-Publish : goal.returns-in-Shut-Publish
returns-in-Shut-Publish g c =
    let filed : List OrderTerms = g.F.Book.orders c.args.step.now.filed in
    as_held g.R.Ranking.good filed c.args.step.now.time _ _ c.in-Shut-Publish.is-0 c.in-Shut-Publish.is-1 (c.publish_figures-in-Shut-Publish.ensures g.R.Ranking.good c.args.list.now)

pub returns-in-Shut-Cross : goal.returns-in-Shut-Cross
returns-in-Shut-Cross g c =
    let filed : List OrderTerms = g.F.Book.orders c.args.step.now.filed in
    as_held g.R.Ranking.good filed c.args.step.now.time _ _ c.in-Shut-Cross.is-0 c.in-Shut-Cross.is-1 c.cross_shut.ensures
