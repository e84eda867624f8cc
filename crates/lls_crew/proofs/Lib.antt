mod Deletions
mod TurnsTaken
