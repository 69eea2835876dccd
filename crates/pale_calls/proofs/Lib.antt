pub mod SignatureLemmas
