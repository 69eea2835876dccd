mod FormsLemmas
mod ResolvedFormulas
mod ResolvedLemmas
mod ResolvingLemmas
mod TextLemmas
