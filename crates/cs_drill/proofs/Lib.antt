mod Alike
mod Outcomes
