-- The leads that the check computes of the definition are the constant, byte for byte.
use mathlib.Core.Path.{refl}
use Rattle.scan.specs.Byte.{is_within, is_space, is_alpha, is_quote}
use Rattle.munch.specs.steps.Leads.{sign_lead, lead_of, leads_from, lead_table}
use Rattle.munch.proofs.leads.Goals as goal

pub returns : goal.returns
unfolding lead_table leads_from lead_of sign_lead is_quote is_space is_alpha is_within
returns c = refl
