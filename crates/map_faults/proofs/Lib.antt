mod AcceptedLemmas
mod RuleLemmas
