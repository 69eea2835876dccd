mod CallLemmas
mod JudgedLemmas
mod PromiseLemmas
mod CompletingLemmas
mod SafeRunLemmas
