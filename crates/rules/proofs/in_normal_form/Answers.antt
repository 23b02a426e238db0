-- The theorems beside the answer.
use Rattle.rules.proofs.Theorems.{normal_form_is_right, route_leads, no_way_is_none, length_is_bounded}
use Rattle.rules.proofs.in_normal_form.Goals as goal

pub returns-clause-normal : goal.returns-clause-normal
returns-clause-normal c = normal_form_is_right

pub returns-clause-route : goal.returns-clause-route
returns-clause-route c = route_leads

pub returns-clause-none : goal.returns-clause-none
returns-clause-none c = no_way_is_none

pub returns-clause-short : goal.returns-clause-short
returns-clause-short c = length_is_bounded
