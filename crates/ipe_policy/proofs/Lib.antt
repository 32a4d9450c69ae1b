mod SpellingLemmas
mod PolicyRules
