mod DigestLemmas
mod ReadingLemmas
mod RoundTrip
