pub mod LabelsLemmas
