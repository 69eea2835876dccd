pub mod ApplyingLemmas
pub mod ConstantsLemmas
pub mod FlatteningLemmas
pub mod FoldingLemmas
pub mod LeftConstantsLemmas
pub mod PartsLemmas
pub mod RewritingLemmas
pub mod UsingLemmas
