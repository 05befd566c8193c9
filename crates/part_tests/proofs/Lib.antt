mod SigningLemmas
