pub mod Lead
pub mod LeadRuleSetLemmas
