pub mod FitForms
pub mod LeadLemmas
mod PutLemmas
