-- The last digit stands behind the leading ones, which are there or not as the rule says.
use Rattle.std.proofs.Common.{rules}
use Rattle.std.proofs.lemmas.List.{append_assoc}
use Rattle.run_report.proofs.Digits.{decimal_rule}
use Rattle.run_report.proofs.decimal.+push_decimal.Goals as goal

pub returns : goal.returns
returns t c = search (rules, append_assoc, decimal_rule)
